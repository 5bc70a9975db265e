use Rattle.std.proofs.Common.{◌≡◌, ◌++◌, take, string_bytes}
use Rattle.event_writing.proofs.item_texts.push_digits.Given as goal

-- the digits so far stand behind what was there
abbrev pub invariant-loop-digit : goal.invariant-loop-digit
invariant-loop-digit l = string_bytes l.text ≡ string_bytes l.initial.text ++ take l.digit-index l.digits
