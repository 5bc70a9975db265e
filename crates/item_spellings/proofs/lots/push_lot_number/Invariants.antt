use Rattle.std.proofs.Common.{◌≡◌, ◌++◌, take, string_bytes}
use Rattle.item_spellings.specs.Lots.{escape}
use Rattle.item_spellings.proofs.lots.push_lot_number.Given as goal

-- what was appended so far
abbrev pub invariant-loop-b : goal.invariant-loop-b
invariant-loop-b l = string_bytes l.text ≡ string_bytes l.initial.text ++ escape (take l.b-index l.number)
