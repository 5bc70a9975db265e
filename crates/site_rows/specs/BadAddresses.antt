-- The rows of addresses that stand in no record's rows.
use Rattle.std.specs.Prelude.{◌≡◌, ◌⊎◌, ℕ, ℤ, pos, ◌-ℤ◌, ◌+◌, ◌<◌, ⊤, Any, List, take, Some, slice_get}
use Rattle.std.specs.declared.cmp.Ordering.TheVariants.{Less}
use Rattle.event_json.specs.declared.limits.TheConstants.{MAX_ADDRESSES}
use Rattle.site_rows.specs.BadRows.{IsSiteNumber}
use Rattle.site_rows.specs.Texts.{IsPlainText, text_cmp}
use Rattle.site_rows.specs.declared.reading_entries.TableFault.{TableFault}
use Rattle.site_rows.specs.declared.reading_entries.TableFault.TheVariants.{NoMemory, BadRow}
use Rattle.site_rows.specs.declared.rows.AddressRow.{AddressRow}

-- some row is of this place at this site
abbrev pub Stands : List AddressRow → ℤ → ℤ → Type 0
Stands rows site place = Any (λ r. (r.site ≡ site) × (r.place ≡ place)) rows

-- a place among the addresses of a site, 0 to 15
pub record IsPlace (n : ℤ) (place : ℕ) : Type 0 where
  pub place_of : n ≡ pos place
  pub small : place < MAX_ADDRESSES

-- the row at place k, from 0, is one of an address of one of so many sites: its text is plain and UTF-8, its
-- place is 0 to 15, no row before it is of the same place, the place before it has a row too, and its text comes after the
-- row before it
pub record IsAddress (sites : ℕ) (rows : List AddressRow) (k : ℕ) (row : AddressRow) : Type 0 where
  pub plain : IsPlainText row.text
  pub site : (s : ℕ) × IsSiteNumber sites row.site s
  pub place : (p : ℕ) × IsPlace row.place p
  pub once : Stands (take k rows) row.site row.place → ⊥
  pub no_gap : (row.place ≡ pos 0) ⊎ Stands rows row.site (row.place -ℤ pos 1)
  pub by_text : (j : ℕ) (before : AddressRow) → j + 1 ≡ k → slice_get rows j ≡ Some before → text_cmp before.text row.text ≡ Less

-- the rows of all addresses
abbrev pub IsAddressTable : ℕ → List AddressRow → Type 0
IsAddressTable sites rows = (k : ℕ) (row : AddressRow) → slice_get rows k ≡ Some row → IsAddress sites rows k row

-- the first row that is none, by its place from 1
pub record IsFirstBadAddress (sites : ℕ) (rows : List AddressRow) (place : ℕ) : Type 0 where
  pub before : ℕ
  pub next : place ≡ before + 1
  pub row : AddressRow
  pub there : slice_get rows before ≡ Some row
  pub good : (k : ℕ) (r : AddressRow) → k < before → slice_get rows k ≡ Some r → IsAddress sites rows k r
  pub bad : IsAddress sites rows before row → ⊥

-- the fault of the table
abbrev pub IsAddressFault : ℕ → List AddressRow → TableFault → Type 0
IsAddressFault sites rows NoMemory = ⊤
IsAddressFault sites rows (BadRow place) = IsFirstBadAddress sites rows place
