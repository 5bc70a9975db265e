use Rattle.std.proofs.Common.{◌≡◌, ℕ, List, Some, slice_get, ◌↔◌, sym, subst}
use Rattle.std.specs.Borrow.{Bor}
use Rattle.std.specs.List.{Contains}
use Rattle.trace_core.specs.declared.nodes.Node.{Node}
use Rattle.trace_core.specs.Found.{HasNumber, items_at}
use Rattle.trace_core.specs.Numbers.{numbered}
use Rattle.trace_core.proofs.FoundSteps.{HasNumbered, batches_give, either_then}
use Rattle.trace_core.proofs.Gathered.{gathering_begins, gathering_goes_on, gathering_ends}
use Rattle.trace_core.proofs.batches.push_items_in.Goals as goal

pub loop-numbers-init : goal.loop-numbers-init
loop-numbers-init c = gathering_begins (HasNumbered c.args.book.now) c.args.batches.now.entries (Contains c.args.found.now.items) c.into_iter-numbers-iterator.result (Contains c.args.found.now.items)
    c.into_iter-numbers-iterator.ensures.into_iter_gives.0 (λ i. (λ h. h, λ h. h))

pub loop-numbers-preserved : goal.loop-numbers-preserved
loop-numbers-preserved c = gathering_goes_on (HasNumbered c.args.book.now) c.args.batches.now.entries (Contains c.args.found.now.items) c.loop-numbers.numbers-iterator c.next.new.self _ (Contains c.loop-numbers.found.items) (Contains c.push_copies.new.found.items) c.in-Some.ensures.steps
    (λ i. either_then (c.in_ok-push_copies.ensures i) (subst (λ (refs : List (Bor (List ℕ))). Contains (items_at refs) i ↔ HasNumber c.args.book.now c.in-Some.numbers.now i) (sym c.deref.ensures.value) (c.in_ok-items.ensures i))) c.loop-numbers.invariant

pub returns : goal.returns
returns c i = either_then
    (gathering_ends (HasNumbered c.args.book.now) c.args.batches.now.entries (Contains c.args.found.now.items) c.loop-numbers.numbers-iterator (Contains c.loop-numbers.found.items) c.in-None.ensures.steps.0 c.loop-numbers.invariant i)
    (batches_give (λ (n : Node) (j : List ℕ). slice_get (numbered c.args.book.now) n.item ≡ Some j) c.args.batches.now c.into_iter-numbers-iterator.ensures.into_iter_gives.5 i)
