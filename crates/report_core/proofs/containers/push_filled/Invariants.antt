use Rattle.std.proofs.Common.{take}
use Rattle.report_core.specs.Containers.{IsFilledAt}
use Rattle.report_core.specs.Sources.{AddsToList, ByOne}
use Rattle.report_core.proofs.containers.push_filled.Given as goal

-- those of the places so far
abbrev pub invariant-loop-place : goal.invariant-loop-place
invariant-loop-place l = AddsToList l.fn.found.items l.found.items (ByOne (take l.place-index l.places) (IsFilledAt l.site.events l.number l.at))
