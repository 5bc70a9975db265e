use Rattle.std.proofs.Common.{ap, ◌∙◌}
use Rattle.std.specs.FinMap.{put}
use Rattle.frame_core.proofs.Ascending.{ascending_keys, copied_next, inserted}
use Rattle.site_core.specs.ItemSets.{item_cmp}
use Rattle.site_core.proofs.ItemOrder.{item_total}
use Rattle.site_core.proofs.held_index.copy_index.Goals as goal

pub loop-item-preserved-in_ok-insert : goal.loop-item-preserved-in_ok-insert
loop-item-preserved-in_ok-insert c =
    let es = c.loop-item.copies.entries in
    let held = c.in_ok-held.held in
    copied_next item_total es c.insert.new.self.entries c.loop-item.item-iterator c.next.new.self c.args.index.now.entries c.in-Some.item.now c.in-Some.recalls.now held
    c.loop-item.invariant c.in-Some.ensures.steps c.in_ok-held.ensures
    (c.in_ok-insert.ensures.entries ∙ inserted item_cmp c.in_ok-own.own held es ∙ ap (λ k. put item_cmp k held es) c.in_ok-own.ensures)
    (ascending_keys item_cmp c.args.index.now.entries c.into_iter-item-iterator.ensures.into_iter_gives.5)

pub loop-item-preserved : goal.loop-item-preserved
loop-item-preserved c =
    let es = c.loop-item.copies.entries in
    let held = c.in_ok-held.held in
    copied_next item_total es c.insert.new.self.entries c.loop-item.item-iterator c.next.new.self c.args.index.now.entries c.in-Some.item.now c.in-Some.recalls.now held
    c.loop-item.invariant c.in-Some.ensures.steps c.in_ok-held.ensures
    (c.in_ok-insert.ensures.entries ∙ inserted item_cmp c.in_ok-own.own held es ∙ ap (λ k. put item_cmp k held es) c.in_ok-own.ensures)
    (ascending_keys item_cmp c.args.index.now.entries c.into_iter-item-iterator.ensures.into_iter_gives.5)
