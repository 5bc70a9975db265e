-- Rows by number, with the count of each recall's rows beside them.
use Rattle.std.specs.Prelude.{◌≡◌, ℕ, zero, suc, ◌+◌, cond, List, [], ◌∷◌, Option, IfSome, IsSome, unwrap_or, ⊤, refl}
use Rattle.std.specs.Ordering.{nat_cmp}
use Rattle.std.specs.Coded.{Coded, code_by, coded×, coded_ℕ}
use Rattle.std.specs.FinMap.{FinMap, code, get, remove}
use Rattle.frame_core.specs.Identifiers.{recall_cmp, same_recall}
use Rattle.frame_core.specs.Numbers.{Recall, coded_recall}
use Rattle.frame_core.specs.Outboxes.{rows_of}
use Rattle.frame_core.specs.Unsignalled.{coded_row}
use Rattle.frame_core.specs.Tables.{set_back}
use Rattle.frame_core.specs.declared.rows.Row.{Row}

pub record Counted : Type 0 where
  pub rows : FinMap nat_cmp Row
  pub counts : FinMap recall_cmp ℕ

abbrev pub coded_counted : Coded Counted
coded_counted = code_by (FinMap nat_cmp Row × FinMap recall_cmp ℕ) (coded× (code coded_ℕ coded_row) (code coded_recall coded_ℕ)) (λ c. (c.rows, c.counts)) (λ p. record { rows = p.0; counts = p.1 }) (λ _. refl)

-- the count of a recall, 0 where it never had a row
abbrev pub count_in : FinMap recall_cmp ℕ → Recall → ℕ
count_in counts r = unwrap_or (get counts r) 0

-- each recall's count is that of its rows
abbrev pub AreCounted : FinMap nat_cmp Row → FinMap recall_cmp ℕ → Type 0
AreCounted rows counts = (r : Recall) → count_in counts r ≡ rows_of rows r

-- a recall that has a count keeps one
abbrev pub KeepsCounts : FinMap recall_cmp ℕ → FinMap recall_cmp ℕ → Type 0
KeepsCounts old new = (r : Recall) → IsSome (get old r) → IsSome (get new r)

-- the count of one recall goes up by one, or down by one, and the others stay
abbrev pub IsRaised : FinMap recall_cmp ℕ → Recall → FinMap recall_cmp ℕ → Type 0
IsRaised old r new = (q : Recall) → count_in new q ≡ count_in old q + cond (same_recall r q) 1 0

abbrev pub IsLowered : FinMap recall_cmp ℕ → Recall → FinMap recall_cmp ℕ → Type 0
IsLowered old r new = (q : Recall) → count_in new q + cond (same_recall r q) 1 0 ≡ count_in old q

-- the rows once the numbers from n on are set back to what they had
abbrev pub undone : FinMap nat_cmp Row → ℕ → List (Option Row) → FinMap nat_cmp Row
undone rows n [] = rows
undone rows n (before ∷ later) = set_back (undone rows (n + 1) later) n before

-- rows stand at these numbers, and the recalls of what they had before have a count: to set them back does not allocate
abbrev pub CanUndo : Counted → ℕ → List (Option Row) → Type 0
CanUndo c n [] = ⊤
CanUndo c n (before ∷ later) = IsSome (get c.rows n) × IfSome before (λ row. IsSome (get c.counts row.recall)) × CanUndo c (n + 1) later

-- the rows without those of so many numbers from n on
abbrev pub without_rows : FinMap nat_cmp Row → ℕ → ℕ → FinMap nat_cmp Row
without_rows rows n zero = rows
without_rows rows n (suc k) = without_rows (remove rows n) (n + 1) k
