use Rattle.std.proofs.Common.{◌≡◌, take, string_bytes}
use Rattle.document_convert.proofs.lots.digits_text.Given as goal

-- those so far
abbrev pub invariant-loop-digit : goal.invariant-loop-digit
invariant-loop-digit l = string_bytes l.text ≡ take l.digit-index l.digits
