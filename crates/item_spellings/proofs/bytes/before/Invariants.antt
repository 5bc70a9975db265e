use Rattle.std.proofs.Common.{◌≡◌, ◌+◌, drop}
use Rattle.item_spellings.specs.Reading.{before}
use Rattle.item_spellings.proofs.bytes.before.Given as goal

-- so many bytes came before the rest
abbrev pub invariant-loop-b : goal.invariant-loop-b
invariant-loop-b l = record {
  value : l.count + before l.byte (drop l.b-index l.text) ≡ before l.byte l.text;
  counted : l.count ≡ l.b-index;
}
