use Rattle.std.proofs.Common.{◌≡◌, sym, subst, arith}
use Rattle.std.specs.List.{Contains}
use Rattle.std.specs.List.Sorted.{IsStrictlySortedBy}
use Rattle.std.specs.Vec.Iter.{into_iter_items}
use Rattle.std.proofs.lemmas.Cmp.{nat_list_cmp_total}
use Rattle.std.proofs.lemmas.List.{nil_from_length}
use Rattle.frame_core.specs.Numbers.{Recall}
use Rattle.site_core.specs.Blocks.{IsBlockFrom}
use Rattle.site_core.specs.Capturing.{IsBlockedBy}
use Rattle.site_core.specs.Quarantines.{item_cmp}
use Rattle.site_core.proofs.Blocks.{next_left, next_least, next_ascends, none_left, nothing_blocks, first_found}
use Rattle.site_core.proofs.made_blocks.first_block.Goals as goal

pub returns-then-is_empty : goal.returns-then-is_empty
returns-then-is_empty c = nothing_blocks c.args.captured.now c.args.quarantine.now c.args.event.now (c.is_empty.ensures.0 c.if-is_empty.true)

pub loop-item-init : goal.loop-item-init
loop-item-init c =
    let gives : into_iter_items c.into_iter-item-iterator.result ≡ c.in_ok-items.items.items = c.into_iter-item-iterator.ensures.into_iter_gives.0 in
    record {
      can = tt;
      finite = tt;
      ascend = subst (IsStrictlySortedBy item_cmp) (sym gives) c.in_ok-items.ensures.ascending;
      left = λ i r b. subst (λ xs. Contains xs i) (sym gives) (c.in_ok-items.ensures.all i r b);
    }

pub returns-in-Some-2 : goal.returns-in-Some-2
returns-in-Some-2 c =
    first_found c.args.captured.now c.args.quarantine.now c.args.event.now c.in-Some.item c.in-Some-2.block
    (subst (λ o. IsBlockFrom c.args.captured.now c.args.quarantine.now c.args.event.now c.in-Some.item o) c.in-Some-2.is c.in_ok-block.ensures)
    (λ j r b. next_least (λ i. (r : Recall) × IsBlockedBy c.args.captured.now c.args.quarantine.now c.args.event.now i r) (into_iter_items c.loop-item.item-iterator) (into_iter_items c.next.new.self) c.in-Some.item c.in-Some.ensures.steps.0
    item_cmp nat_list_cmp_total c.loop-item.invariant.ascend (λ i (r, b). c.loop-item.invariant.left i r b) j (r, b))

pub loop-item-preserved : goal.loop-item-preserved
loop-item-preserved c = record {
  can = tt;
  finite = tt;
  ascend = next_ascends (λ i. (r : Recall) × IsBlockedBy c.args.captured.now c.args.quarantine.now c.args.event.now i r) (into_iter_items c.loop-item.item-iterator) (into_iter_items c.next.new.self) c.in-Some.item c.in-Some.ensures.steps.0
      item_cmp c.loop-item.invariant.ascend;
  left = λ i r b. next_left (λ i. (r : Recall) × IsBlockedBy c.args.captured.now c.args.quarantine.now c.args.event.now i r) (into_iter_items c.loop-item.item-iterator) (into_iter_items c.next.new.self) c.in-Some.item c.in-Some.ensures.steps.0
      (λ (r, b). subst (λ o. IsBlockFrom c.args.captured.now c.args.quarantine.now c.args.event.now c.in-Some.item o) c.in-None-2.is c.in_ok-block.ensures r b)
      (λ i (r, b). c.loop-item.invariant.left i r b) i (r, b);
}

pub returns : goal.returns
returns c = λ i r b. none_left (λ i. (r : Recall) × IsBlockedBy c.args.captured.now c.args.quarantine.now c.args.event.now i r) (into_iter_items c.loop-item.item-iterator)
    (nil_from_length (into_iter_items c.loop-item.item-iterator) (omega (arith, c.in-None.ensures.steps.0))) (λ i (r, b). c.loop-item.invariant.left i r b) i (r, b)
