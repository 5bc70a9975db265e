use Rattle.std.proofs.Common.{take}
use Rattle.report_core.specs.Gathering.{Adds, Goes, OneTells}
use Rattle.report_core.proofs.gathering.add_of_destinations.Given as goal

-- those with the destinations so far
abbrev pub invariant-loop-text : goal.invariant-loop-text
invariant-loop-text l = Adds l.fn.found l.found (OneTells (take l.text-index l.destinations) (Goes l.site l.item))
