use Rattle.std.proofs.Common.{◌≡◌, take}
use Rattle.trace_core.specs.declared.pairs.Pair.{Pair}
use Rattle.gap_core.specs.Adding.{AddsToList, ByOne}
use Rattle.gap_core.specs.declared.missed_steps.MissedStep.{MissedStep}
use Rattle.gap_core.proofs.missed_steps.push_steps.Given as goal

-- those from the pairs so far
abbrev pub invariant-loop-pair : goal.invariant-loop-pair
invariant-loop-pair l = AddsToList l.fn.steps.items l.steps.items (ByOne (take l.pair-index l.missed) (λ (p : Pair). λ (m : MissedStep). record { from = p; to = l.to } ≡ m))
