use Rattle.std.proofs.Common.{◌≡◌, take, string_bytes}
use Rattle.item_spellings.proofs.lot_parts.text_of.Given as goal

-- those so far
abbrev pub invariant-loop-byte : goal.invariant-loop-byte
invariant-loop-byte l = string_bytes l.text ≡ take l.byte-index l.bytes
