-- The value of an outbox: what it says of each unsignalled message, by number, and the next number.
use Rattle.std.specs.Prelude.{ℕ, ◌+◌, ◌≤◌, ◌^◌, List, refl}
use Rattle.std.specs.Ordering.{nat_cmp}
use Rattle.std.specs.Coded.{Coded, code_by, coded×, coded_ℕ, coded_list}
use Rattle.std.specs.FinMap.{FinMap, code}
use Rattle.frame_core.specs.Numbers.{Recall}
use Rattle.frame_core.specs.declared.rows.Row.{Row}
use Rattle.frame_core.specs.Numbers.{coded_recall}

-- the rows of the unsignalled messages, by number, and the next number
pub record Unsignalled : Type 0 where
  pub rows : FinMap nat_cmp Row
  pub next : ℕ

-- a number that a message may get, or one more where they are spent
pub record IsNextNumber (n : ℕ) : Type 0 where
  pub low : 1 ≤ n
  pub high : n ≤ 2 ^ 62 + 1

abbrev pub coded_row : Coded Row
coded_row = code_by (ℕ × (Recall × List ℕ)) (coded× coded_ℕ (coded× coded_recall (coded_list coded_ℕ))) (λ r. (r.dest, (r.recall, r.item))) (λ p. record { dest = p.0; recall = p.1.0; item = p.1.1 }) (λ _. refl)

abbrev pub coded_unsignalled : Coded Unsignalled
coded_unsignalled = code_by (FinMap nat_cmp Row × ℕ) (coded× (code coded_ℕ coded_row) coded_ℕ) (λ u. (u.rows, u.next)) (λ p. record { rows = p.0; next = p.1 }) (λ _. refl)
