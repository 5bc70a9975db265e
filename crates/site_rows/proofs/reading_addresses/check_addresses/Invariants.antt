use Rattle.std.proofs.Common.{◌≡◌, ℕ, ◌<◌, Some}
use Rattle.std.specs.List.{slice_get}
use Rattle.site_rows.specs.BadAddresses.{IsAddress}
use Rattle.site_rows.specs.declared.rows.AddressRow.{AddressRow}
use Rattle.site_rows.proofs.reading_addresses.check_addresses.Given as goal

-- each row so far is one of an address
abbrev pub invariant-loop-place : goal.invariant-loop-place
invariant-loop-place l = (k : ℕ) (r : AddressRow) → k < l.place → slice_get l.rows k ≡ Some r → IsAddress l.sites l.rows k r
