-- The rows of addresses as the addresses of sites.
use Rattle.std.specs.Prelude.{◌≡◌, ℕ, pos, ◌<◌, Contains, List, Some, length, slice_get}
use Rattle.event_json.specs.Sites.{Site}
use Rattle.site_rows.specs.declared.rows.AddressRow.{AddressRow}

-- the row of a text at a place of a site
abbrev pub row_at : ℕ → ℕ → List ℕ → AddressRow
row_at site place text = record { text = text; site = pos site; place = pos place }

-- the texts are those that rows give for a site, each at its place
pub record AreTextsOf (rows : List AddressRow) (site : ℕ) (texts : List (List ℕ)) : Type 0 where
  pub told : (place : ℕ) (text : List ℕ) → slice_get texts place ≡ Some text → Contains rows (row_at site place text)
  pub all : (row : AddressRow) (place : ℕ) → Contains rows row → row.site ≡ pos site → row.place ≡ pos place → place < length texts

-- a row is one of a place of a site
pub record IsRowAt (rows : List AddressRow) (site place : ℕ) (row : AddressRow) : Type 0 where
  pub among : Contains rows row
  pub at_site : row.site ≡ pos site
  pub at_place : row.place ≡ pos place

-- each site has the addresses that rows give for it
abbrev pub HaveAddresses : List AddressRow → List Site → Type 0
HaveAddresses rows sites = (number : ℕ) (site : Site) → slice_get sites number ≡ Some site → AreTextsOf rows number site.addresses
