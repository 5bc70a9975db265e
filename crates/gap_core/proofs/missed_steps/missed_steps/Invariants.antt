use Rattle.std.proofs.Common.{[]}
use Rattle.trace_core.specs.Chains.{sites_at}
use Rattle.gap_core.specs.Adding.{AddsToList}
use Rattle.gap_core.specs.MissedSteps.{IsMissedStepAt}
use Rattle.gap_core.proofs.Additions.{Before}
use Rattle.gap_core.proofs.missed_steps.missed_steps.Given as goal

-- those of the sites so far
abbrev pub invariant-loop-at : goal.invariant-loop-at
invariant-loop-at l = AddsToList [] l.steps.items (Before l.at (IsMissedStepAt (sites_at l.sites)))
