use Rattle.std.proofs.Common.{List, ℕ, [], ◌∷◌, ◌++◌, take, ◌↔◌, sym, ap, subst, ◌∙◌, arith}
use mathlib.Core.Logic.{◌⊎◌}
use Rattle.std.specs.Borrow.{Bor}
use Rattle.std.specs.List.{Contains}
use Rattle.std.proofs.lemmas.List.{take_all}
use Rattle.trace_core.specs.Found.{items_at}
use Rattle.trace_core.proofs.FoundSteps.{none_more, copy_pushed, refs_more}
use Rattle.trace_core.proofs.batches.push_copies.Goals as goal

pub loop-item-init : goal.loop-item-init
loop-item-init c = none_more c.reserve.new.self.items

pub loop-item-preserved : goal.loop-item-preserved
loop-item-preserved c i =
    let k = c.loop-item.item-index in
    let item = c.item-item.result in
    let more = refs_more c.args.items.now k item (omega arith) c.item-item.is in
    subst (λ (is : List (List ℕ)). Contains c.push.new.self.items i ↔ (Contains c.reserve.new.self.items i ⊎ Contains is i)) (ap (λ (j : List ℕ). items_at (take k c.args.items.now) ++ j ∷ []) c.in_ok-copy.ensures ∙ sym more)
    (copy_pushed c.reserve.new.self.items c.loop-item.found.items c.push.new.self.items (items_at (take k c.args.items.now)) c.in_ok-copy.field-0 c.in_ok-push.ensures.items c.loop-item.invariant i)

pub returns : goal.returns
returns c i = subst (λ (refs : List (Bor (List ℕ))). Contains c.loop-item.found.items i ↔ (Contains c.args.found.now.items i ⊎ Contains (items_at refs) i)) (take_all c.loop-item.item-index c.args.items.now (omega arith))
    (subst (λ (is : List (List ℕ)). Contains c.loop-item.found.items i ↔ (Contains is i ⊎ Contains (items_at (take c.loop-item.item-index c.args.items.now)) i)) c.in_ok-reserve.ensures.items (c.loop-item.invariant i))
