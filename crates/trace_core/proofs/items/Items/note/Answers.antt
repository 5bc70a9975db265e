use Rattle.std.proofs.Common.{List, ℕ, [], ◌∷◌, ◌++◌, sym, ap, ◌∙◌}
use Rattle.std.proofs.lemmas.Result.{on_ok_weaker}
use Rattle.trace_core.specs.Numbers.{Named, names_of, number_in}
use Rattle.trace_core.specs.Places.{with_last}
use Rattle.trace_core.proofs.NamedLists.{number_told, changed_at_names, noted_known, noted_new}
use Rattle.trace_core.proofs.items.Items.note.Goals as goal

pub returns-in_ok-note_at-in-Some-clause-ok : goal.returns-in_ok-note_at-in-Some-clause-ok
returns-in_ok-note_at-in-Some-clause-ok c = c.in_ok-note_at-in-Some.ensures.ok ∙ noted_known c.args.place c.args.item.now c.in-Some.number c.args.self.now c.in-Some.ensures

pub returns-in_ok-note_at-in-Some-clause-number : goal.returns-in_ok-note_at-in-Some-clause-number
returns-in_ok-note_at-in-Some-clause-number c =
    ap (λ (xs : List Named). number_in (names_of xs) c.args.item.now) c.in_ok-note_at-in-Some.ensures.ok
    ∙ ap (λ ns. number_in ns c.args.item.now) (changed_at_names (with_last c.args.place) c.in-Some.number c.args.self.now)
    ∙ sym c.in-Some.ensures

pub returns-in_ok-places-in-None-clause-ok : goal.returns-in_ok-places-in-None-clause-ok
returns-in_ok-places-in-None-clause-ok c = on_ok_weaker c.add.result
    (λ is. is ∙ ap (λ (ps : List ℕ). c.args.self.now ++ (c.args.item.now, ps) ∷ []) c.in_ok-places-in-None.ensures ∙ noted_new c.args.place c.args.item.now c.args.self.now c.in-None.ensures)
    c.add.ensures.ok

pub returns-in_ok-places-in-None-clause-number : goal.returns-in_ok-places-in-None-clause-number
returns-in_ok-places-in-None-clause-number c = number_told c.add.result c.args.self.now c.add.new.self c.args.item.now _ c.in-None.ensures c.add.ensures.ok c.add.ensures.number
