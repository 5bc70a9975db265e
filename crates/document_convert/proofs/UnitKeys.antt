-- The keys of units.
use Rattle.std.proofs.Common.{◌≡◌, ◌⊎◌, ℕ, List}
use Rattle.epc_core.specs.Items.{sgtin_key, sscc_key}
use Rattle.epc_core.specs.Numbers.{IsChecked}
use Rattle.epc_core.specs.Serials.{IsSerial}

-- of a trade item
pub record IsItemKey (key : List ℕ) : Type 0 where
  pub gtin : List ℕ
  pub serial : List ℕ
  pub checked : IsChecked 14 gtin
  pub allowed : IsSerial serial
  pub is : key ≡ sgtin_key gtin serial

-- of a logistic unit
pub record IsSsccKey (key : List ℕ) : Type 0 where
  pub digits : List ℕ
  pub checked : IsChecked 18 digits
  pub is : key ≡ sscc_key digits

abbrev pub IsUnitKey : List ℕ → Type 0
IsUnitKey key = IsItemKey key ⊎ IsSsccKey key
