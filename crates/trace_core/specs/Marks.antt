-- Numbers that are marked: each by a mark of its own, or as one of a list.
use Rattle.std.specs.Prelude.{◌≡◌, ◌<◌, ℕ, Bool, true, false, List, length, slice_get, unwrap_or, Contains}
use Rattle.trace_core.specs.Places.{places_where}

-- whether the mark at a number is set
abbrev pub is_set : List Bool → ℕ → Bool
is_set marks n = unwrap_or (slice_get marks n) false

-- the numbers whose marks are set
abbrev pub set_marks : List Bool → List ℕ
set_marks marks = places_where (λ b. b) marks

-- those of the numbers that have marks, have them set
abbrev pub AreSet : List Bool → List ℕ → Type 0
AreSet marks numbers = (n : ℕ) → Contains numbers n → n < length marks → is_set marks n ≡ true
