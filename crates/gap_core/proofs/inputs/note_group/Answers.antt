use Rattle.std.proofs.Common.{◌∙◌, List, ℕ, sym, ap, subst}
use Rattle.std.specs.Option.{option_map}
use Rattle.std.proofs.lemmas.Result.{on_ok_weaker}
use Rattle.trace_core.specs.Pairs.{make_id}
use Rattle.gap_core.specs.Adding.{ByOne, NotesThose}
use Rattle.gap_core.specs.Used.{IsTakenOnce, taken_in}
use Rattle.gap_core.proofs.UsedSteps.{alone_noted, parts_noted}
use Rattle.gap_core.proofs.inputs.note_group.Goals as goal

pub returns-in_ok-parts-in-Some-id_of : goal.returns-in_ok-parts-in-Some-id_of
returns-in_ok-parts-in-Some-id_of c =
    let events = c.args.site.now.events in
    let there = sym (sym (ap (option_map (λ e. e.now)) c.in-Some.is) ∙ c.event.ensures) in
    let own = sym (ap make_id c.body.ensures.value) ∙ sym (sym (ap (option_map (λ t. t.now)) c.in-Some-id_of.is) ∙ c.id_of.ensures) in
    on_ok_weaker c.note_parts.result
    (λ notes. parts_noted events c.args.place c.in-Some.event.now there c.in-Some-id_of.id.now c.in_ok-parts-in-Some-id_of.parts.items own c.in_ok-parts-in-Some-id_of.ensures.exact c.args.inputs.now c.note_parts.new.inputs
    (subst (λ (ps : List ℕ). NotesThose (ByOne ps (IsTakenOnce events)) c.args.inputs.now c.note_parts.new.inputs) c.as_slice.ensures.value notes))
    c.note_parts.ensures

pub returns-in-None : goal.returns-in-None
returns-in-None c =
    let there = sym (sym (ap (option_map (λ e. e.now)) c.in-Some.is) ∙ c.event.ensures) in
    let none = sym (ap make_id c.body.ensures.value) ∙ sym (sym (ap (option_map (λ t. t.now)) c.in-None.is) ∙ c.id_of.ensures) in
    on_ok_weaker c.note_items.result
    (alone_noted c.args.site.now.events c.args.place c.in-Some.event.now there c.taken_in.result.now (c.taken_in.ensures ∙ ap taken_in c.body-in-None.ensures.value) none c.args.inputs.now c.note_items.new.items)
    c.note_items.ensures
