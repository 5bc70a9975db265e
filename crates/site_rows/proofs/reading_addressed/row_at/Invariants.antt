use Rattle.std.proofs.Common.{◌≡◌, ℕ, ◌<◌, pos, Some}
use Rattle.std.specs.List.{slice_get}
use Rattle.site_rows.specs.declared.rows.AddressRow.{AddressRow}
use Rattle.site_rows.proofs.reading_addressed.row_at.Given as goal

-- none so far
abbrev pub invariant-loop-row : goal.invariant-loop-row
invariant-loop-row l = (k : ℕ) (r : AddressRow) → k < l.row-index → slice_get l.rows k ≡ Some r → (r.site ≡ pos l.number) × (r.place ≡ pos l.place) → ⊥
