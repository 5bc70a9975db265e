use Rattle.std.proofs.Common.{◌∙◌, ◌+◌, ◌<◌, length, refl, sym, ap, subst, arith}
use Rattle.std.specs.Option.{option_map}
use Rattle.report_core.specs.Sources.{AddsTo, Keeps, NotesOf}
use Rattle.report_core.proofs.Additions.{adds_nothing}
use Rattle.report_core.proofs.EventsInTurn.{not_past}
use Rattle.report_core.proofs.PlacesKept.{NotesBefore, none_before, event_noted, events_noted}
use Rattle.report_core.proofs.makers.note_site.Goals.{in-Some+in_ok-note_body, in_default}
use Rattle.report_core.proofs.makers.note_site.Goals as goal

pub loop-place-init : goal.loop-place-init
loop-place-init c = adds_nothing (Keeps c.args.index.now) (NotesBefore (NotesOf c.args.wanted c.args.noting) c.args.site.now c.args.number 0) (none_before (NotesOf c.args.wanted c.args.noting) c.args.site.now c.args.number)

pub loop-place-preserved : goal.loop-place-preserved
loop-place-preserved c =
    let s = c.args.site.now in
    let place = c.loop-place.place in
    elim c.match-event.branch as (λ _. AddsTo (Keeps c.args.index.now) (Keeps c.match-event.index) (NotesBefore (NotesOf c.args.wanted c.args.noting) s c.args.number (place + 1))) [
      | in-Some+in_ok-note_body w ↦
          let there = sym (sym (ap (option_map (λ e. e.now)) w.in-Some.is) ∙ c.event.ensures) in
          subst (λ f. AddsTo (Keeps c.args.index.now) (Keeps f) (NotesBefore (NotesOf c.args.wanted c.args.noting) s c.args.number (place + 1))) (sym w.index-is)
          (event_noted (NotesOf c.args.wanted c.args.noting) s c.args.number c.args.index.now c.loop-place.index w.note_body.new.index place w.in-Some.event.now w.body.result.now (record { site = c.args.number; event = place }) there w.body.ensures.value refl c.loop-place.invariant w.in_ok-note_body.ensures)
      | in_default w ↦
          let below : place < length s.events = subst (λ n. place < n) c.len-place-end.ensures c.loop-place-test.true in
          let none = sym (ap (option_map (λ e. e.now)) w.in_default.is) ∙ c.event.ensures in
          absurd (not_past s.events place below none)
    ]

pub returns : goal.returns
returns c = events_noted (NotesOf c.args.wanted c.args.noting) c.args.site.now c.args.number c.args.index.now c.loop-place.index c.loop-place.place (omega (arith, c.loop-place-test.false, c.len-place-end.ensures)) c.loop-place.invariant
