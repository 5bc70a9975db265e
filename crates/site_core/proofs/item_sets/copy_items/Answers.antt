use Rattle.std.proofs.Common.{◌≡◌, ◌++◌, ◌∷◌, ap, sym, ◌∙◌}
use Rattle.site_core.proofs.ItemSets.{insert_next}
use Rattle.site_core.proofs.item_sets.copy_items.Goals as goal

pub loop-item-preserved : goal.loop-item-preserved
loop-item-preserved c =
    let ks = c.loop-item.copies.keys in
    let next : ks ++ c.in_ok-copy.field-0 ∷ c.next.new.self ≡ c.args.items.now.keys =
    ap (λ k. ks ++ k ∷ c.next.new.self) c.in_ok-copy.ensures ∙ ap (λ rest. ks ++ rest) (sym c.in-Some.ensures.steps) ∙ c.loop-item.invariant in
    ap (λ xs. xs ++ c.next.new.self) c.in_ok-insert.ensures.keys ∙ insert_next ks c.next.new.self c.args.items.now.keys c.in_ok-copy.field-0 next c.into_iter-item-iterator.ensures.into_iter_gives.4
