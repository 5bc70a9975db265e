use Rattle.std.proofs.Common.{List, ℕ, [], ◌∷◌, ◌++◌, take, ◌↔◌, sym, ap, subst, ◌∙◌, arith}
use mathlib.Core.Logic.{◌⊎◌}
use Rattle.std.specs.Borrow.{Bor}
use Rattle.std.specs.List.{Contains}
use Rattle.std.proofs.lemmas.List.{take_all}
use Rattle.trace_core.specs.declared.pairs.Pair.{Pair}
use Rattle.trace_core.specs.Found.{IsPairOf, items_at}
use Rattle.trace_core.proofs.FoundSteps.{no_pairs, pair_pushed, refs_more}
use Rattle.trace_core.proofs.batches.push_pairs.Goals as goal

pub loop-item-init : goal.loop-item-init
loop-item-init c = no_pairs c.reserve.new.self.items c.args.at

pub loop-item-preserved : goal.loop-item-preserved
loop-item-preserved c p =
    let k = c.loop-item.item-index in
    let item = c.item-item.result in
    let more = refs_more c.args.items.now k item (omega arith) c.item-item.is in
    subst (λ (is : List (List ℕ)). Contains c.push.new.self.items p ↔ (Contains c.reserve.new.self.items p ⊎ IsPairOf c.args.at is p)) (ap (λ (i : List ℕ). items_at (take k c.args.items.now) ++ i ∷ []) c.in_ok-copy.ensures ∙ sym more)
    (pair_pushed c.reserve.new.self.items c.loop-item.pairs.items c.push.new.self.items c.args.at (items_at (take k c.args.items.now)) c.in_ok-copy.field-0 c.in_ok-push.ensures.items c.loop-item.invariant p)

pub returns : goal.returns
returns c p = subst (λ (refs : List (Bor (List ℕ))). Contains c.loop-item.pairs.items p ↔ (Contains c.args.pairs.now.items p ⊎ IsPairOf c.args.at (items_at refs) p)) (take_all c.loop-item.item-index c.args.items.now (omega arith))
    (subst (λ (ps : List Pair). Contains c.loop-item.pairs.items p ↔ (Contains ps p ⊎ IsPairOf c.args.at (items_at (take c.loop-item.item-index c.args.items.now)) p)) c.in_ok-reserve.ensures.items (c.loop-item.invariant p))
