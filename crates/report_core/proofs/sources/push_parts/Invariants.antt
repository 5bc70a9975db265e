use Rattle.std.proofs.Common.{take}
use Rattle.report_core.specs.Sources.{AddsToList, ByOne, IsInputAt}
use Rattle.report_core.proofs.sources.push_parts.Given as goal

-- those of the events so far
abbrev pub invariant-loop-place : goal.invariant-loop-place
invariant-loop-place l = AddsToList l.fn.found.items l.found.items (ByOne (take l.place-index l.places) (IsInputAt l.site))
