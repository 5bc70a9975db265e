use Rattle.std.proofs.Common.{string_bytes}
use Rattle.std.specs.List.{range_with_len}
use Rattle.script_core.specs.Pumping.{AddsText, Each, TakesPart}
use Rattle.script_core.proofs.running.Running.round.Given as goal

-- each site so far took its part
abbrev pub invariant-loop-number : goal.invariant-loop-number
invariant-loop-number l = AddsText (Each TakesPart (range_with_len 0 l.number)) l.initial.self l.self (string_bytes l.initial.text) (string_bytes l.text)
