use Rattle.gap_core.specs.Adding.{AddsTo}
use Rattle.gap_core.specs.Sources.{IsFilledAt, Keeps}
use Rattle.gap_core.proofs.Additions.{Before}
use Rattle.gap_core.proofs.searches.note_own.Given as goal

-- those of the events so far
abbrev pub invariant-loop-place : goal.invariant-loop-place
invariant-loop-place l = AddsTo (Keeps l.fn.index) (Keeps l.index) (Before l.place (IsFilledAt l.site.events l.at))
