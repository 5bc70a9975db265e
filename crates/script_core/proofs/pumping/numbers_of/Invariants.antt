use Rattle.std.proofs.Common.{◌≡◌, ◌++◌, map}
use Rattle.std.specs.FinMap.{entries}
use Rattle.script_core.proofs.pumping.numbers_of.Given as goal

-- the numbers so far, and those to come
abbrev pub invariant-loop-number : goal.invariant-loop-number
invariant-loop-number l = l.numbers.items ++ map (λ e. e.0) l.number-iterator ≡ map (λ e. e.0) (entries l.state.engagement.outbox)
