use Rattle.std.proofs.Common.{◌+◌, map, drop, length, vec_capacity, sym, ap, subst, ◌∙◌, arith}
use Rattle.std.proofs.lemmas.List.{map_push, length_push}
use Rattle.site_core.specs.Holding.{without_items}
use Rattle.site_core.specs.Quarantines.{with_item, with_items, HasNoEmptySet}
use Rattle.site_core.proofs.Held.{held_next, no_empty_with, undone_new, undone_held}
use Rattle.site_core.proofs.quarantines.Quarantine.hold_each.Goals as goal
use Rattle.site_core.proofs.quarantines.Quarantine.hold_each.Goals.{then-new, else-new}

pub loop-item-preserved : goal.loop-item-preserved
loop-item-preserved c =
    let q = c.loop-item.self in
    let r = c.args.recall in
    let i = c.item-item.result in
    let was = c.loop-item.invariant in
    record {
      rest = ap (λ p. with_items p r (drop (c.loop-item.item-index + 1) c.args.items.now)) c.in-Ok.ensures.ok
          ∙ held_next q r c.args.items.now c.loop-item.item-index i (omega (arith, c.loop-item-test.true, c.loop-item.auto.item-index-end)) c.item-item.is
          ∙ was.rest;
      undone = ap (λ p. without_items p r (map (λ j. j.now) c.if-new.added.items)) c.in-Ok.ensures.ok ∙ elim c.if-new.branch [
        | then-new w ↦ ap (λ v. without_items (with_item q r i) r (map (λ j. j.now) v.items)) w.added-is
            ∙ ap (λ xs. without_items (with_item q r i) r (map (λ j. j.now) xs)) w.push_reserved.ensures.items
            ∙ ap (without_items (with_item q r i) r) (map_push (λ j. j.now) c.loop-item.added.items _)
            ∙ undone_new q r (map (λ j. j.now) c.loop-item.added.items) i was.full (sym c.in-Ok.ensures.new ∙ w.if-new.true)
        | else-new w ↦ ap (λ v. without_items (with_item q r i) r (map (λ j. j.now) v.items)) w.added-is
            ∙ undone_held q r (map (λ j. j.now) c.loop-item.added.items) i (sym c.in-Ok.ensures.new ∙ w.if-new.false)
      ] ∙ was.undone;
      full = subst HasNoEmptySet (sym c.in-Ok.ensures.ok) (no_empty_with q r i was.full);
      few = elim c.if-new.branch [
        | then-new w ↦ omega (arith, ap (λ v. length v.items) w.added-is, ap length w.push_reserved.ensures.items, length_push c.loop-item.added.items, was.few)
        | else-new w ↦ omega (arith, ap (λ v. length v.items) w.added-is, was.few)
      ];
      room = elim c.if-new.branch [
        | then-new w ↦ omega (arith, ap vec_capacity w.added-is, w.push_reserved.ensures.capacity, was.room)
        | else-new w ↦ omega (arith, ap vec_capacity w.added-is, was.room)
      ];
    }
