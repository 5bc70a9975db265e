-- The item of a printed key, computed, and the three ways in which an item is spelled.
use Rattle.std.specs.Prelude.{ℕ, Bool, false, ◌&&◌, not, if◌then◌else◌, List, codes, Option, Some, None, is_some, Result, Ok, Err}
use Rattle.epc_core.specs.Items.{behind, parted, is_plain, number_key_of}
use Rattle.epc_core.specs.Numbers.{is_checked}
use Rattle.epc_core.specs.Reading.{reading}
use Rattle.epc_core.specs.Serials.{is_serial}
use Rattle.epc_core.specs.declared.items.EpcFault.{EpcFault}
use Rattle.item_spellings.specs.Scans.{scan_reading}
use Rattle.item_spellings.specs.declared.faults.ScanFault.{ScanFault}
use Rattle.item_spellings.specs.declared.faults.SpellingFault.{SpellingFault}
use Rattle.item_spellings.specs.declared.faults.SpellingFault.TheVariants.{NoEpc, NoKey, NoScan}
use Rattle.item_spellings.specs.declared.spellings.Spelled.{Spelled}
use Rattle.item_spellings.specs.declared.spellings.Spelling.{Spelling}
use Rattle.item_spellings.specs.declared.spellings.Spelling.TheVariants.{Epc, Key, Scan}

-- whether these are a GTIN-14 and a serial number
abbrev pub are_sgtin : Option (List ℕ × List ℕ) → Bool
are_sgtin None = false
are_sgtin (Some parts) = is_checked 14 parts.0 && is_serial parts.1

-- whether this is a text that names an opaque item
abbrev pub is_other : Option (List ℕ) → Bool
is_other None = false
is_other (Some text) = is_plain text && not (is_some (number_key_of text))

-- whether a text is the key of an item, by its first word. `IsKey` of epc_core's Spellings.antt says the same as a fact.
abbrev pub is_sscc_or_other : List ℕ → Option (List ℕ) → Bool
is_sscc_or_other text None = is_other (behind (codes "uri ") text)
is_sscc_or_other text (Some digits) = is_checked 18 digits

abbrev pub is_key_behind : List ℕ → Option (List ℕ) → Bool
is_key_behind text None = is_sscc_or_other text (behind (codes "sscc ") text)
is_key_behind text (Some rest) = are_sgtin (parted 32 rest)

abbrev pub is_key : List ℕ → Bool
is_key text = is_key_behind text (behind (codes "sgtin ") text)

-- the item whose key a text is
unfoldable pub key_reading : List ℕ → Option (List ℕ)
key_reading text = if is_key text then Some text else None

-- ---- by spelling

abbrev pub of_epc : Result (List ℕ) EpcFault → Result (List ℕ) SpellingFault
of_epc (Ok key) = Ok key
of_epc (Err fault) = Err NoEpc

abbrev pub of_key : Option (List ℕ) → Result (List ℕ) SpellingFault
of_key (Some key) = Ok key
of_key None = Err NoKey

abbrev pub of_scan : Result (List ℕ) ScanFault → Result (List ℕ) SpellingFault
of_scan (Ok key) = Ok key
of_scan (Err fault) = Err (NoScan fault)

abbrev pub reading_by : Spelling → List ℕ → Result (List ℕ) SpellingFault
reading_by Epc text = of_epc (reading text)
reading_by Key text = of_key (key_reading text)
reading_by Scan text = of_scan (scan_reading text)

-- the key of the item that a text spells, or why it spells none
unfoldable pub item_reading : Spelled → Result (List ℕ) SpellingFault
item_reading item = reading_by item.spelling item.text.now
