use Rattle.std.proofs.Common.{subst}
use Rattle.epc_core.proofs.Found.{IsUtf8-from_serial}
use Rattle.item_spellings.specs.Named.{IsNamed}
use Rattle.item_spellings.proofs.Words.{digits_in_utf8}
use Rattle.item_spellings.proofs.scans.key_of.Goals as goal

pub push_ascii-requires : goal.push_ascii-requires
push_ascii-requires c = let is = subst IsNamed c.in-Sgtin.is c.requires in digits_in_utf8 14 c.in-Sgtin.gtin.now is.0

pub push_ascii-requires-in-Sgtin : goal.push_ascii-requires-in-Sgtin
push_ascii-requires-in-Sgtin c = let is = subst IsNamed c.in-Sgtin.is c.requires in IsUtf8-from_serial c.in-Sgtin.serial.now is.1

pub push_ascii-requires-in-Lot : goal.push_ascii-requires-in-Lot
push_ascii-requires-in-Lot c = let is = subst IsNamed c.in-Lot.is c.requires in digits_in_utf8 14 c.in-Lot.gtin.now is.0

pub push_ascii-requires-in-Sscc : goal.push_ascii-requires-in-Sscc
push_ascii-requires-in-Sscc c = let is = subst IsNamed c.in-Sscc.is c.requires in digits_in_utf8 18 c.in-Sscc.sscc.now is
