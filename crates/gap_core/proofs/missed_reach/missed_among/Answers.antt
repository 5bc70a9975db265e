use Rattle.std.proofs.Common.{◌↔◌, []}
use Rattle.std.specs.List.{Contains}
use Rattle.std.proofs.lemmas.Map.Lookups.{CmpEqualImpliesEq}
use Rattle.std.proofs.lemmas.Result.{IfOk-weaker}
use Rattle.trace_core.specs.declared.pairs.Pair.{Pair}
use Rattle.trace_core.specs.Chains.{sites_at}
use Rattle.trace_core.specs.Pairs.{pair_cmp}
use Rattle.trace_core.proofs.PairOrder.{pairs_exact}
use Rattle.gap_core.specs.Missed.{IsMissedPair, IsPairFound}
use Rattle.gap_core.proofs.Additions.{all_added, one_more}
use Rattle.gap_core.proofs.MissedReach.{all_pairs_found}
use Rattle.gap_core.proofs.missed_reach.missed_among.Goals as goal

pub loop-pair-preserved : goal.loop-pair-preserved
loop-pair-preserved c =
    one_more (IsPairFound c.in_ok-missed.missed) c.args.pairs.now c.loop-pair.pair-index (Contains []) (Contains c.loop-pair.found.items) (Contains c.note_if.new.found.items)
    c.pair-item.result c.loop-pair-test.true c.pair-item.is c.loop-pair.invariant c.in_ok-note_if.ensures

pub returns-clause-exact : goal.returns-clause-exact
returns-clause-exact c =
    let those = all_pairs_found (sites_at c.args.sites.now) c.in_ok-missed.missed c.in_ok-missed_pairs.field-0.items c.args.pairs.now c.loop-pair.found.items c.in_ok-missed.ensures c.in_ok-missed_pairs.ensures.exact
    (all_added (IsPairFound c.in_ok-missed.missed) c.args.pairs.now c.loop-pair.pair-index (Contains []) (Contains c.loop-pair.found.items) c.loop-pair-test.false c.loop-pair.invariant) in
    IfOk-weaker c.in_order.result
    (λ found. CmpEqualImpliesEq pair_cmp → (p : Pair) → Contains found.items p ↔ Contains c.loop-pair.found.items p)
    (λ found. (p : Pair) → Contains found.items p ↔ (Contains c.args.pairs.now p × IsMissedPair (sites_at c.args.sites.now) p))
    (λ found same p. let (to, from) = same pairs_exact p in let (there, back) = those p in (λ at. there (to at), λ both. from (back both)))
    c.in_order.ensures.same
