use Rattle.std.proofs.Common.{take}
use Rattle.std.specs.List.{AllZip}
use Rattle.trace_core.specs.Chains.{sites_at}
use Rattle.gap_core.specs.LineEvents.{AreEventsOf}
use Rattle.gap_core.proofs.line_events.gap_events.Given as goal

-- those of the lines so far
abbrev pub invariant-loop-line : goal.invariant-loop-line
invariant-loop-line l = AllZip (AreEventsOf (sites_at l.sites)) (take l.line-index l.lines) l.events.items
