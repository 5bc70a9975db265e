-- Words that are printed.
use Rattle.std.specs.Prelude.{ℕ, List, codes}
use Rattle.item_spellings.specs.declared.faults.ScanFault.{ScanFault}
use Rattle.item_spellings.specs.declared.faults.ScanFault.TheVariants as faults

abbrev pub scan_fault_name : ScanFault → List ℕ
scan_fault_name faults.NoElements = codes "NoElements"
scan_fault_name faults.Differing = codes "Differing"
scan_fault_name faults.TwoItems = codes "TwoItems"
scan_fault_name faults.NoItem = codes "NoItem"
scan_fault_name faults.NoSerial = codes "NoSerial"
scan_fault_name faults.CheckDigit = codes "CheckDigit"
scan_fault_name faults.BadSerial = codes "BadSerial"
scan_fault_name faults.BadLot = codes "BadLot"
