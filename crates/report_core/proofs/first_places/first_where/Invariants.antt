use Rattle.std.proofs.Common.{take}
use Rattle.report_core.specs.TrailEvents.{IsFirstOrNone}
use Rattle.report_core.specs.FirstPlaces.{IsOneOf}
use Rattle.report_core.proofs.first_places.first_where.Given as goal

-- the first of the places so far
abbrev pub invariant-loop-place : goal.invariant-loop-place
invariant-loop-place g l = IsFirstOrNone (IsOneOf (g.T.PlaceTest.holds l.test) (take l.place-index l.places)) l.first
