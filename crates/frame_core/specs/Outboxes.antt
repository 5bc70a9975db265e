-- Numbering messages, and how many of a recall are unsignalled.
--
-- After Dijkstra and Scholten, "Termination detection for diffusing computations", Information Processing
-- Letters 11 (1980), section 2: a deficit is the number of messages sent and not signalled yet. Here it is
-- counted in the outbox, in which each message has a row from its numbering to its signal.
use Rattle.std.specs.Prelude.{ℕ, ◌+◌, ◌≤◌, ◌≡◌, Bool, List, [], ◌∷◌, Option, Some, IfSome}
use Rattle.std.specs.Ordering.{nat_cmp}
use Rattle.std.specs.List.{count_by, list_any}
use Rattle.std.specs.FinMap.{FinMap, get, insert, values}
use Rattle.frame_core.specs.Numbers.{Recall}
use Rattle.frame_core.specs.declared.rows.Row.{Row}
use Rattle.frame_core.specs.Identifiers.{same_recall}

-- the row of a message of the recall, for a destination and an item
abbrev pub row_for : Recall → ℕ × List ℕ → Row
row_for r pair = record { dest = pair.0; recall = r; item = pair.1 }

-- the rows after a message of the recall to each of these destinations got a number, in order from n on.
-- A row that stands at such a number is written over
abbrev pub numbered : FinMap nat_cmp Row → ℕ → Recall → List (ℕ × List ℕ) → FinMap nat_cmp Row
numbered rows n r [] = rows
numbered rows n r (pair ∷ out) = numbered (insert rows n (row_for r pair)) (n + 1) r out

-- how many rows are of the recall: its deficit
abbrev pub rows_of : FinMap nat_cmp Row → Recall → ℕ
rows_of rows r = count_by (λ row. same_recall row.recall r) (values rows)

-- whether a row is of the recall
abbrev pub has_rows : FinMap nat_cmp Row → Recall → Bool
has_rows rows r = list_any (λ row. same_recall row.recall r) (values rows)

-- a row of this number is for the destination
abbrev pub IsRowTo : FinMap nat_cmp Row → ℕ → ℕ → Type 0
IsRowTo rows dest n = (row : Row) × (get rows n ≡ Some row) × (row.dest ≡ dest)

-- the least number of a row for the destination, of those from a number on, where there is one
pub record IsNextTo (rows : FinMap nat_cmp Row) (dest from : ℕ) (found : Option ℕ) : Type 0 where
  pub there : IfSome found (λ n. IsRowTo rows dest n × (from ≤ n))
  pub least : (n : ℕ) → IsRowTo rows dest n → from ≤ n → (k : ℕ) × (found ≡ Some k) × (k ≤ n)
