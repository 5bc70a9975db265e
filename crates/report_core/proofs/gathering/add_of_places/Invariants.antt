use Rattle.std.proofs.Common.{take}
use Rattle.report_core.specs.Gathering.{Adds, OneTells, PlaceTells}
use Rattle.report_core.proofs.gathering.add_of_places.Given as goal

-- those of the places so far
abbrev pub invariant-loop-place : goal.invariant-loop-place
invariant-loop-place l = Adds l.fn.found l.found (OneTells (take l.place-index l.places) (PlaceTells l.captured.events l.site l.item))
