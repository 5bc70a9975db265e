use Rattle.std.proofs.Common.{map, Bor, ap, ◌∙◌}
use Rattle.std.proofs.lemmas.List.{take_all}
use Rattle.site_core.specs.Records.{Record}
use Rattle.site_recovery.proofs.ReachOfRoots.{captured_at_once}
use Rattle.site_recovery.proofs.recalls.captured.Goals as goal

pub returns : goal.returns
returns c = c.loop-state.invariant ∙ ap (map (λ (s : Bor Record). s.now.captured)) (take_all c.loop-state.state-index c.args.sites.now c.loop-state-test.false) ∙ captured_at_once c.args.sites.now
