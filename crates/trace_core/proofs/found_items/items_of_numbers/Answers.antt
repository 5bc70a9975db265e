use Rattle.std.proofs.Common.{ℕ, List, ◌↔◌}
use Rattle.std.specs.List.{Contains}
use Rattle.std.proofs.lemmas.Result.{IfOk-weaker}
use Rattle.trace_core.specs.Found.{HasNumber, items_at}
use Rattle.trace_core.proofs.FoundSteps.{same_numbers, iff_then}
use Rattle.trace_core.proofs.found_items.items_of_numbers.Goals as goal

pub returns-in-Some : goal.returns-in-Some
returns-in-Some c = IfOk-weaker c.items_in_turn.result
    (λ items. (i : List ℕ) → Contains (items_at items.items) i ↔ HasNumber c.args.book.now c.in-Some.few.now.keys i)
    (λ items. (i : List ℕ) → Contains (items_at items.items) i ↔ HasNumber c.args.book.now c.args.numbers.now i)
    (λ items are i. iff_then (are i) (same_numbers c.args.book.now c.in-Some.few.now.keys c.args.numbers.now c.in-Some.ensures i))
    c.items_in_turn.ensures
