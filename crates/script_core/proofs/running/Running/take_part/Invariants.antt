use Rattle.std.proofs.Common.{take, string_bytes}
use Rattle.script_core.specs.Pumping.{AddsText, Each, Exchanges}
use Rattle.script_core.proofs.running.Running.take_part.Given as goal

-- an exchange was made for each row so far
abbrev pub invariant-loop-number : goal.invariant-loop-number
invariant-loop-number l = AddsText (Each (Exchanges l.site) (take l.number-index l.number-items)) l.initial.self l.self (string_bytes l.initial.text) (string_bytes l.text)
