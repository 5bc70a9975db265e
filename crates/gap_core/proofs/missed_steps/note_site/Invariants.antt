use Rattle.trace_core.specs.Chains.{sites_at}
use Rattle.gap_core.specs.Adding.{AddsToList}
use Rattle.gap_core.specs.MissedSteps.{IsMissedStepTo}
use Rattle.gap_core.proofs.Additions.{Before}
use Rattle.gap_core.proofs.missed_steps.note_site.Given as goal

-- those to the sites of lower numbers
abbrev pub invariant-loop-number : goal.invariant-loop-number
invariant-loop-number l = AddsToList l.fn.steps.items l.steps.items (Before l.number (IsMissedStepTo (sites_at l.sites) l.at))
