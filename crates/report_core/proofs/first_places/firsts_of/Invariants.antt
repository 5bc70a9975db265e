use Rattle.std.proofs.Common.{take}
use Rattle.std.specs.Ordering.{nat_cmp}
use Rattle.trace_core.specs.Searches.{IsFound}
use Rattle.report_core.specs.FirstPlaces.{IsGroupAt}
use Rattle.report_core.specs.Sources.{AddsTo, ByOne}
use Rattle.report_core.proofs.first_places.firsts_of.Given as goal

-- those of the places so far
abbrev pub invariant-loop-place : goal.invariant-loop-place
invariant-loop-place l = AddsTo (IsFound nat_cmp l.initial.firsts) (IsFound nat_cmp l.firsts) (ByOne (take l.place-index l.places) (IsGroupAt l.site.events l.number))
