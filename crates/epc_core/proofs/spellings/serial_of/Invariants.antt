use Rattle.std.proofs.Common.{◌≡◌, ◌≤◌, ◌++◌, length, take}
use Rattle.percent_encoding.specs.Iter.{decoded_bytes}
use Rattle.percent_encoding.specs.Percent.{percent_decode}
use Rattle.epc_core.proofs.spellings.serial_of.Given as goal

abbrev pub invariant-loop-byte : goal.invariant-loop-byte
invariant-loop-byte l = record {
  next : (goal.iterator-loop-byte).can_next l.byte-iterator;
  finite : (goal.iterator-loop-byte).is_finite l.byte-iterator;
  few : l.count ≤ 20;
  room : length l.bytes ≡ 20;
  read : percent_decode l.escaped ≡ take l.count l.bytes ++ decoded_bytes l.byte-iterator;
}
