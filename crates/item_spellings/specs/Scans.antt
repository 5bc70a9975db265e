-- The item that element strings name.
use Rattle.std.specs.Prelude.{◌||◌, ℕ, Bool, not, if◌then◌else◌, List, [], ◌∷◌, codes, Option, Some, None, Result, Ok, Err, bytes_eq}
use Rattle.std.specs.List.{list_all}
use Rattle.epc_core.specs.Items.{sgtin_key, sscc_key, uri_key}
use Rattle.epc_core.specs.Numbers.{is_checked}
use Rattle.epc_core.specs.Serials.{is_serial}
use Rattle.item_spellings.specs.Elements.{Element}
use Rattle.item_spellings.specs.Lots.{lot_text}
use Rattle.item_spellings.specs.Reading.{elements_of}
use Rattle.item_spellings.specs.declared.faults.ScanFault.{ScanFault}
use Rattle.item_spellings.specs.declared.faults.ScanFault.TheVariants.{NoElements, Differing, TwoItems, NoItem, NoSerial, CheckDigit, BadSerial, BadLot}

-- the value of the first element with this AI
abbrev pub look : List ℕ → List Element → Option (List ℕ)
look ai [] = None
look ai (e ∷ es) = if bytes_eq e.0 ai then Some e.1 else look ai es

-- whether each element with this AI has this value
abbrev pub all_have : List ℕ → List ℕ → List Element → Bool
all_have ai value es = list_all (λ e. not (bytes_eq e.0 ai) || bytes_eq e.1 value) es

-- the value of an AI, which is the same wherever it stands
abbrev pub only : List ℕ → List Element → Result (Option (List ℕ)) ScanFault
only ai es = agreed (look ai es) where
  agreed : Option (List ℕ) → Result (Option (List ℕ)) ScanFault
  agreed None = Ok None
  agreed (Some value) = if all_have ai value es then Ok (Some value) else Err Differing

-- the logistic unit of an SSCC (AI 00; GS1 General Specifications, section 3.3)
abbrev pub sscc_item : List ℕ → Result (List ℕ) ScanFault
sscc_item sscc = if is_checked 18 sscc then Ok (sscc_key sscc) else Err CheckDigit

-- the trade item of a GTIN and a serial number (AI 01 and AI 21; sections 3.3 and 3.5)
abbrev pub sgtin_item : List ℕ → List ℕ → Result (List ℕ) ScanFault
sgtin_item gtin serial =
    if is_checked 14 gtin then (if is_serial serial then Ok (sgtin_key gtin serial) else Err BadSerial) else Err CheckDigit

-- the lot of a GTIN (AI 01 and AI 10; sections 3.3 and 3.4): a lot number has the characters of a serial number
abbrev pub lot_item : List ℕ → List ℕ → Result (List ℕ) ScanFault
lot_item gtin lot =
    if is_checked 14 gtin then (if is_serial lot then Ok (uri_key (lot_text gtin lot)) else Err BadLot) else Err CheckDigit

-- what a GTIN names by what is found under AI 10
abbrev pub lot_named : List ℕ → Result (Option (List ℕ)) ScanFault → Result (List ℕ) ScanFault
lot_named gtin (Err fault) = Err fault
lot_named gtin (Ok None) = Err NoSerial
lot_named gtin (Ok (Some lot)) = lot_item gtin lot

-- the item of what is found under AI 00, AI 01 and AI 21, and, without an SSCC and a serial number, under AI 10
abbrev pub item_named : List Element → Option (List ℕ) → Option (List ℕ) → Option (List ℕ) → Result (List ℕ) ScanFault
item_named es (Some sscc) (Some gtin) (Some serial) = Err TwoItems
item_named es (Some sscc) gtin serial = sscc_item sscc
item_named es None (Some gtin) (Some serial) = sgtin_item gtin serial
item_named es None (Some gtin) None = lot_named gtin (only (codes "10") es)
item_named es None None serial = Err NoItem

abbrev pub found_item : List Element → Result (Option (List ℕ)) ScanFault → Result (Option (List ℕ)) ScanFault → Result (Option (List ℕ)) ScanFault → Result (List ℕ) ScanFault
found_item es (Err fault) gtin serial = Err fault
found_item es (Ok sscc) (Err fault) serial = Err fault
found_item es (Ok sscc) (Ok gtin) (Err fault) = Err fault
found_item es (Ok sscc) (Ok gtin) (Ok serial) = item_named es sscc gtin serial

abbrev pub item_of : List Element → Result (List ℕ) ScanFault
item_of es = found_item es (only (codes "00") es) (only (codes "01") es) (only (codes "21") es)

-- what a scanned text spells: the key of its item, or why it spells none
unfoldable pub scan_reading : List ℕ → Result (List ℕ) ScanFault
scan_reading text = of (elements_of text) where
  of : Option (List Element) → Result (List ℕ) ScanFault
  of None = Err NoElements
  of (Some es) = item_of es
