use Rattle.std.proofs.Common.{length, ap, ◌∙◌}
use Rattle.std.proofs.lemmas.List.FromFn.{length-map-range_with_len}
use Rattle.site_core.specs.Records.{fresh}
use Rattle.world_core.specs.Worlds.{Up, WorldState}
use Rattle.script_core.proofs.beginning.begin_world.Goals as goal

pub new-requires-clause-all_stand : goal.new-requires-clause-all_stand
new-requires-clause-all_stand c =
    ap (λ (w : WorldState). length w.sites) c.in_ok-world.ensures ∙ length-map-range_with_len (λ n. Up (fresh c.args.sites n)) 0 (length c.args.sites)
