use Rattle.std.proofs.Common.{◌≡◌, ◌++◌, length, IsUtf8, string_bytes}
use Rattle.report_forms.specs.Dot.{replaced}
use Rattle.report_forms.proofs.replaced.push_replaced.Given as goal

-- the text so far and the rest in its place are the whole
abbrev pub invariant-loop-before : goal.invariant-loop-before
invariant-loop-before l = record {
  same : string_bytes l.text ++ replaced l.byte l.with l.rest ≡ string_bytes l.fn.text ++ replaced l.byte l.with l.part;
  text : IsUtf8 l.rest;
}

abbrev pub decreases-loop-before : goal.decreases-loop-before
decreases-loop-before l = length l.rest
