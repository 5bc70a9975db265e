use Rattle.std.proofs.Common.{string_bytes}
use Rattle.std.specs.List.{range_with_len}
use Rattle.script_core.specs.Pumping.{AddsText, Each, TakesRound}
use Rattle.script_core.proofs.running.Running.pump.Given as goal

-- the rounds so far
abbrev pub invariant-loop : goal.invariant-loop
invariant-loop l = AddsText (Each (λ round. TakesRound) (range_with_len 0 l.counter)) l.initial.self l.self (string_bytes l.initial.text) (string_bytes l.text)
