use Rattle.std.specs.Prelude.{◌≡◌, ℕ, List, Option, Result, Ok, Err, option_map}
use Rattle.std.specs.Borrow.{Bor}
use Rattle.epc_core.specs.Items.{sgtin_key, sscc_key, uri_key}
use Rattle.epc_core.specs.Numbers.{IsChecked}
use Rattle.epc_core.specs.Serials.{IsSerial}
use Rattle.item_spellings.specs.Lots.{lot_text}
use Rattle.item_spellings.specs.declared.faults.ScanFault.{ScanFault}
use Rattle.item_spellings.specs.declared.lookups.Named.{Named}
use Rattle.item_spellings.specs.declared.lookups.Named.TheVariants.{Lot, Sgtin, Sscc}

-- the key of an item by its parts
abbrev pub named_key : Named → List ℕ
named_key (Sgtin gtin serial) = sgtin_key gtin.now serial.now
named_key (Sscc sscc) = sscc_key sscc.now
named_key (Lot gtin lot) = uri_key (lot_text gtin.now lot.now)

-- the parts are an item's
abbrev pub IsNamed : Named → Type 0
IsNamed (Sgtin gtin serial) = IsChecked 14 gtin.now × IsSerial serial.now
IsNamed (Sscc sscc) = IsChecked 18 sscc.now
IsNamed (Lot gtin lot) = IsChecked 14 gtin.now × IsSerial lot.now

-- what was found has this key, or there is this fault
abbrev pub NamesItem : Result (List ℕ) ScanFault → Result Named ScanFault → Type 0
NamesItem read (Ok named) = (read ≡ Ok (named_key named)) × IsNamed named
NamesItem read (Err fault) = read ≡ Err fault

-- the value that was found, or this fault
abbrev pub OnlySeen : Result (Option (List ℕ)) ScanFault → Result (Option (Bor (List ℕ))) ScanFault → Type 0
OnlySeen read (Ok found) = read ≡ Ok (option_map (λ b. b.now) found)
OnlySeen read (Err fault) = read ≡ Err fault
