use Rattle.trace_core.specs.Chains.{sites_at}
use Rattle.report_core.specs.Sources.{NotesOf}
use Rattle.report_core.proofs.PlacesKept.{ArePlacesBefore}
use Rattle.report_core.proofs.makers.places_of.Given as goal

-- those of the sites so far
abbrev pub invariant-loop-number : goal.invariant-loop-number
invariant-loop-number l = ArePlacesBefore (NotesOf l.wanted l.noting) (sites_at l.sites) l.number l.index
