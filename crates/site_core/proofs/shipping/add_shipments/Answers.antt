use Rattle.std.proofs.Common.{◌≡◌, ◌↔◌, sym, subst, arith}
use Rattle.std.specs.List.{Contains}
use Rattle.std.specs.Vec.Iter.{into_iter_items}
use Rattle.std.proofs.lemmas.List.{nil_from_length}
use Rattle.trace_core.specs.Pairs.{IsShipped}
use Rattle.site_core.proofs.Shipped.{next_added, shipments_added}
use Rattle.site_core.proofs.shipping.add_shipments.Goals as goal

pub loop-pair-preserved : goal.loop-pair-preserved
loop-pair-preserved c = record {
  can = c.loop-pair.invariant.can;
  finite = c.loop-pair.invariant.finite;
  all = λ t i.
      let step = next_added (into_iter_items c.loop-pair.pair-iterator) (into_iter_items c.next.new.self) c.in-Some.pair c.in-Some.ensures.steps.0 c.loop-pair.found c.insert.new.self c.in_ok-insert.ensures.updates t i in
      let so_far = c.loop-pair.invariant.all t i in
      (λ h. so_far.0 (step.0 h), λ h. step.1 (so_far.1 h));
}

pub returns : goal.returns
returns c =
    let gives : into_iter_items c.into_iter-pair-iterator.result ≡ c.in_ok-pair-items.pair-items.items = c.into_iter-pair-iterator.ensures.into_iter_gives.0 in
    shipments_added c.args.captured.now c.args.item.now c.args.found.now c.loop-pair.found (into_iter_items c.into_iter-pair-iterator.result) (into_iter_items c.loop-pair.pair-iterator)
    (nil_from_length (into_iter_items c.loop-pair.pair-iterator) (omega (arith, c.in-None.ensures.steps.0)))
    (λ p. subst (λ ps. Contains ps p ↔ IsShipped c.args.captured.now c.args.item.now p) (sym gives) (c.in_ok-pair-items.ensures.exact p))
    c.loop-pair.invariant.all
