use Rattle.std.proofs.Common.{◌↔◌, ◌∙◌, ap, sym, Contains}
use Rattle.std.proofs.lemmas.Result.{IfOk-weaker}
use Rattle.trace_core.specs.Chains.{Related, sites_at}
use Rattle.trace_core.specs.Relations.{Reaches}
use Rattle.trace_core.specs.declared.pairs.Pair.{Pair}
use Rattle.site_recovery.specs.Checking.{records_at, IsReachedBy}
use Rattle.site_recovery.proofs.ReachOfRoots.{root_reaches}
use Rattle.report_core.proofs.roots.reached.Goals as goal

pub returns-clause-reached : goal.returns-clause-reached
returns-clause-reached c =
    let records = records_at c.args.sites.now in
    IfOk-weaker c.reach.result
    (λ pairs. (p : Pair) → Contains pairs.items p ↔ Reaches (Related (sites_at c.as_slice.result.now)) c.in_ok-root.root p)
    (λ pairs. (p : Pair) → Contains pairs.items p ↔ IsReachedBy records c.args.recall p)
    (λ pairs exact. root_reaches records c.args.recall c.args.entry.now c.in_ok-root.root (sites_at c.as_slice.result.now) pairs.items
    (sym c.requires.begun) c.in_ok-root.ensures (ap sites_at c.as_slice.ensures.value ∙ c.in_ok-captured.ensures) exact)
    c.reach.ensures.reached
