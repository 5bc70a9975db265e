use Rattle.std.proofs.Common.{◌≡◌, sym, subst, arith}
use Rattle.std.specs.List.{Contains}
use Rattle.std.specs.Vec.Iter.{into_iter_items}
use Rattle.std.proofs.lemmas.List.{nil_from_length}
use Rattle.trace_core.specs.declared.pairs.Pair.{Pair}
use Rattle.site_recovery.proofs.ReachedItems.{adds_alike, all_come, none_yet, one_further}
use Rattle.site_recovery.proofs.reached_items.hold_pairs.Goals as goal

pub loop-pair-init : goal.loop-pair-init
loop-pair-init c = none_yet (λ pair r p. (r ≡ c.args.recall) × (p ≡ pair)) c.args.reached.now.items c.args.pairs.items (into_iter_items c.into_iter-pair-iterator.result) c.into_iter-pair-iterator.ensures.into_iter_gives.0

pub loop-pair-preserved : goal.loop-pair-preserved
loop-pair-preserved c =
    one_further (λ pair r p. (r ≡ c.args.recall) × (p ≡ pair)) c.args.reached.now.items c.args.pairs.items (into_iter_items c.loop-pair.pair-iterator) (into_iter_items c.next.new.self) c.in-Some.pair c.loop-pair.reached.items c.hold_pair.new.reached.items
    c.in-Some.ensures.steps.0 c.in_ok-hold_pair.ensures c.loop-pair.invariant

pub returns : goal.returns
returns c =
    let pairs = c.args.pairs.items in
    let recall = c.args.recall in
    let left = into_iter_items c.loop-pair.pair-iterator in
    adds_alike (λ r p. (pair : Pair) × Contains pairs pair × ((r ≡ recall) × (p ≡ pair))) (λ r p. (r ≡ recall) × Contains pairs p) c.args.reached.now.items c.loop-pair.reached.items
    (λ r p. (λ (pair, at, (of, is)). (of, subst (Contains pairs) (sym is) at), λ (of, at). (p, at, (of, λ i. p))))
    (all_come (λ pair r p. (r ≡ recall) × (p ≡ pair)) c.args.reached.now.items pairs left c.loop-pair.reached.items (nil_from_length left (omega (arith, c.in-None.ensures.steps.0))) c.loop-pair.invariant)
