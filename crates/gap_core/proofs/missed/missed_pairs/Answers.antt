use Rattle.std.proofs.Common.{◌↔◌, [], arith}
use Rattle.std.specs.List.{Contains}
use Rattle.std.proofs.lemmas.Map.Lookups.{CmpEqualImpliesEq}
use Rattle.std.proofs.lemmas.Result.{IfOk-weaker}
use Rattle.trace_core.specs.declared.pairs.Pair.{Pair}
use Rattle.trace_core.specs.Chains.{sites_at}
use Rattle.trace_core.specs.Pairs.{pair_cmp}
use Rattle.trace_core.proofs.PairOrder.{pairs_exact}
use Rattle.trace_core.proofs.Visiting.{as_many_sites}
use Rattle.gap_core.specs.Missed.{IsMissedAt, IsMissedPair}
use Rattle.gap_core.proofs.Additions.{more_before}
use Rattle.gap_core.proofs.MissedSteps.{all_missed}
use Rattle.gap_core.proofs.missed.missed_pairs.Goals as goal

pub loop-at-preserved : goal.loop-at-preserved
loop-at-preserved c =
    more_before (IsMissedAt (sites_at c.args.sites.now)) c.loop-at.at (Contains []) (Contains c.loop-at.missed.items) (Contains c.note_site.new.missed.items) c.loop-at.invariant c.in_ok-note_site.ensures

pub returns-clause-exact : goal.returns-clause-exact
returns-clause-exact c = IfOk-weaker c.in_order.result
    (λ pairs. CmpEqualImpliesEq pair_cmp → (p : Pair) → Contains pairs.items p ↔ Contains c.loop-at.missed.items p)
    (λ pairs. (p : Pair) → Contains pairs.items p ↔ IsMissedPair (sites_at c.args.sites.now) p)
    (λ pairs same. all_missed (sites_at c.args.sites.now) c.loop-at.at c.loop-at.missed.items pairs.items (as_many_sites c.args.sites.now c.loop-at.at (omega (arith, c.loop-at-test.false))) c.loop-at.invariant (same pairs_exact))
    c.in_order.ensures.same
