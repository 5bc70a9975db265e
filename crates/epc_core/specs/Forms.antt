use Rattle.std.specs.Prelude.{◌≡◌, ℕ, ◌<◌, List, length, Option, Some, None, MatchOption, IsUtf8}
use Rattle.epc_core.specs.declared.items.EpcForm.{EpcForm}
use Rattle.epc_core.specs.declared.items.EpcForm.TheVariants.{Item, Sscc, Other}
use Rattle.epc_core.specs.Items.{sgtin_key, sscc_key, uri_key, number_key_of}
use Rattle.epc_core.specs.Numbers.{IsChecked}
use Rattle.epc_core.specs.Serials.{IsSerial}
use Rattle.epc_core.specs.Spellings.{Spells, IsKey}

-- the key of an item in its form
abbrev pub key_of_form : EpcForm → List ℕ
key_of_form (Item gtin serial) = sgtin_key gtin serial
key_of_form (Sscc digits) = sscc_key digits
key_of_form (Other text) = uri_key text

-- an item's form: a GTIN-14 with a serial number, an SSCC-18, or a text that spells an opaque item
abbrev pub IsForm : EpcForm → Type 0
IsForm (Item gtin serial) = IsChecked 14 gtin × IsSerial serial
IsForm (Sscc digits) = IsChecked 18 digits
IsForm (Other text) = Spells text (uri_key text) × IsUtf8 text

-- the form is the one of the item with this key, and there is none only where no text spells such an item
abbrev pub IsFormOfKey : List ℕ → Option EpcForm → Type 0
IsFormOfKey key found = MatchOption found (¬ IsKey key) (λ form. (key_of_form form ≡ key) × IsForm form)

-- the form is the one of the GS1 item that a text spells, and there is none only where it spells none
abbrev pub IsNumberForm : List ℕ → Option EpcForm → Type 0
IsNumberForm text found = MatchOption found (number_key_of text ≡ None) (λ form. (number_key_of text ≡ Some (key_of_form form)) × IsForm form)

-- the forms hold the same digits and characters
abbrev pub SameForm : EpcForm → EpcForm → Type 0
SameForm (Item gtin serial) (Item other_gtin other_serial) = (gtin ≡ other_gtin) × (serial ≡ other_serial)
SameForm (Sscc digits) (Sscc other) = digits ≡ other
SameForm (Other text) (Other other) = text ≡ other
SameForm form other = ⊥

-- the item with this key allocates: it is an opaque one whose text has more than 30 bytes
abbrev pub TakesMemory : List ℕ → Type 0
TakesMemory key = (text : List ℕ) × (key ≡ uri_key text) × (30 < length text)
