use Rattle.std.proofs.Common.{◌↔◌}
use Rattle.std.specs.List.{Contains}
use Rattle.std.proofs.lemmas.Result.{IfOk-weaker}
use Rattle.trace_core.specs.declared.pairs.Pair.{Pair}
use Rattle.trace_core.specs.Chains.{Related, sites_at}
use Rattle.trace_core.specs.Relations.{ReachedFrom, Reaches}
use Rattle.trace_core.proofs.ReachFrom.{from_one}
use Rattle.trace_core.proofs.chains.reach.Goals as goal

pub returns-clause-reached : goal.returns-clause-reached
returns-clause-reached c =
    let R = Related (sites_at c.args.sites.now) in
    IfOk-weaker c.reach_from.result
    (λ pairs. (p : Pair) → Contains pairs.items p ↔ ReachedFrom R c.from_ref.result.now p)
    (λ pairs. (p : Pair) → Contains pairs.items p ↔ Reaches R c.args.root.now p)
    (λ pairs are p. from_one R c.args.root.now c.from_ref.result.now c.from_ref.ensures.value p (are p))
    c.reach_from.ensures.reached
