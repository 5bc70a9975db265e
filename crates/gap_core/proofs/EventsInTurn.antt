-- Events, one place after another.
use Rattle.std.proofs.Common.{◌≡◌, ◌≤◌, ◌∙◌, ℕ, List, Some, length, slice_get, sym}
use Rattle.std.proofs.lemmas.Option.{slice_get_past}
use Rattle.trace_core.proofs.NumberLists.{none_is}

-- none stands past the end
pub none_past : {X : Type 0} (xs : List X) (k : ℕ) (x : X) → length xs ≤ k → slice_get xs k ≡ Some x → ⊥
none_past xs k x past so = none_is x (sym (slice_get_past xs k past) ∙ so)
