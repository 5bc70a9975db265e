use Rattle.report_core.specs.Sources.{AddsTo, Keeps, NotesOf}
use Rattle.report_core.proofs.PlacesKept.{NotesBefore}
use Rattle.report_core.proofs.makers.note_site.Given as goal

-- those of the events so far
abbrev pub invariant-loop-place : goal.invariant-loop-place
invariant-loop-place l = AddsTo (Keeps l.fn.index) (Keeps l.index) (NotesBefore (NotesOf l.wanted l.noting) l.site l.number l.place)
