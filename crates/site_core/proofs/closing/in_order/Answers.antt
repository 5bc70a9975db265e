use Rattle.std.proofs.Common.{[], ◌∷◌, ◌++◌, sym, ap, ◌∙◌, append_assoc}
use Rattle.site_core.proofs.Holders.{append_nil}
use Rattle.site_core.proofs.closing.in_order.Goals as goal

pub loop-item-init : goal.loop-item-init
loop-item-init c = ap (λ xs. xs ++ c.into_iter-item-iterator.result) c.new-list.ensures.items ∙ c.into_iter-item-iterator.ensures.into_iter_gives.0 ∙ c.items-item-items.ensures.items

pub loop-item-preserved : goal.loop-item-preserved
loop-item-preserved c =
    let before = c.loop-item.list.items in
    ap (λ xs. xs ++ c.next.new.self) (c.in_ok-push.ensures.items ∙ ap (λ i. before ++ i ∷ []) c.in_ok-copy.ensures)
    ∙ append_assoc before (c.in-Some.item.now ∷ []) c.next.new.self
    ∙ ap (λ xs. before ++ xs) (sym c.in-Some.ensures.steps)
    ∙ c.loop-item.invariant

pub returns : goal.returns
returns c = sym (append_nil c.loop-item.list.items) ∙ ap (λ xs. c.loop-item.list.items ++ xs) (sym c.in-None.ensures.steps.0) ∙ c.loop-item.invariant
