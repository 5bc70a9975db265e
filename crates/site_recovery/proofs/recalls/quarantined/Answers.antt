use Rattle.std.proofs.Common.{◌↔◌, ap, sym, ◌∙◌, subst, Contains}
use Rattle.std.proofs.lemmas.List.{take_all}
use Rattle.trace_core.specs.Pairs.{IsStrictlyAscending}
use Rattle.site_recovery.specs.Checking.{records_at, world_at}
use Rattle.site_recovery.specs.Looks.{Held}
use Rattle.site_recovery.specs.Recalls.{quarantined}
use Rattle.site_recovery.proofs.HeldPairs.{pairs_ascend, pairs_held}
use Rattle.site_recovery.proofs.Holding.{more_held}
use Rattle.site_recovery.proofs.recalls.quarantined.Goals as goal

pub loop-state-preserved : goal.loop-state-preserved
loop-state-preserved c =
    more_held (λ s. s.now) c.args.recall c.args.sites.now c.loop-state.state-index c.state-item.result c.loop-state.pairs.items _ c.loop-state-test.true c.state-item.is c.loop-state.invariant c.in_ok-add_held.ensures

pub returns-clause-ascending : goal.returns-clause-ascending
returns-clause-ascending c places =
    let all = c.loop-state.invariant ∙ ap (λ s. quarantined c.args.recall (records_at s)) (take_all c.loop-state.state-index c.args.sites.now c.loop-state-test.false) in
    subst IsStrictlyAscending (sym all) (pairs_ascend c.args.recall (records_at c.args.sites.now) places)

pub returns-clause-held : goal.returns-clause-held
returns-clause-held c places p =
    let all = c.loop-state.invariant ∙ ap (λ s. quarantined c.args.recall (records_at s)) (take_all c.loop-state.state-index c.args.sites.now c.loop-state-test.false) in
    subst (λ ps. Contains ps p ↔ Held (world_at c.args.sites.now) p.site c.args.recall p.item) (sym all) (pairs_held c.args.recall (records_at c.args.sites.now) places p)
