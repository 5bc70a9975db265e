use Rattle.std.proofs.Common.{◌↔◌, []}
use Rattle.std.specs.List.{Contains}
use Rattle.std.proofs.lemmas.Map.Lookups.{CmpEqualImpliesEq}
use Rattle.std.proofs.lemmas.Result.{IfOk-weaker}
use Rattle.trace_core.specs.declared.pairs.Pair.{Pair}
use Rattle.trace_core.specs.Pairs.{pair_cmp}
use Rattle.trace_core.proofs.Gathered.{gathering_ends, gathering_goes_on}
use Rattle.trace_core.proofs.PairOrder.{pairs_exact}
use Rattle.gap_core.specs.Misses.{IsBeyond}
use Rattle.gap_core.proofs.MissesLists.{IsNotIn, all_beyond}
use Rattle.gap_core.proofs.misses.missed_of.Goals as goal

pub loop-pair-preserved : goal.loop-pair-preserved
loop-pair-preserved c =
    gathering_goes_on (IsNotIn c.args.reached.now.told) c.args.reached.now.wide.keys (Contains []) c.loop-pair.pair-iterator c.next.new.self c.in-Some.pair.now (Contains c.loop-pair.found.items) (Contains c.note_beyond.new.found.items)
    c.in-Some.ensures.steps c.in_ok-note_beyond.ensures c.loop-pair.invariant

pub returns-clause-exact : goal.returns-clause-exact
returns-clause-exact c = IfOk-weaker c.in_order.result
    (λ pairs. CmpEqualImpliesEq pair_cmp → (p : Pair) → Contains pairs.items p ↔ Contains c.loop-pair.found.items p)
    (λ pairs. (p : Pair) → Contains pairs.items p ↔ IsBeyond c.args.reached.now p)
    (λ pairs same. all_beyond c.args.reached.now c.loop-pair.found.items pairs.items
    (gathering_ends (IsNotIn c.args.reached.now.told) c.args.reached.now.wide.keys (Contains []) c.loop-pair.pair-iterator (Contains c.loop-pair.found.items) c.in-None.ensures.steps.0 c.loop-pair.invariant)
    (same pairs_exact))
    c.in_order.ensures.same
