use Rattle.std.proofs.Common.{rules, sym, ap, ◌∙◌}
use Rattle.std.proofs.lemmas.Result.{on_ok_weaker, on_err_weaker}
use Rattle.trace_core.specs.Places.{text_places, with_last, or_none}
use Rattle.trace_core.proofs.PlaceSteps.{text_found, noted_key, noted_new, same_again}
use Rattle.trace_core.proofs.ids.note_text.Goals as goal

pub returns-in-Some-clause-ok : goal.returns-in-Some-clause-ok
returns-in-Some-clause-ok c = on_ok_weaker c.note.result
    (λ is. noted_key (text_places c.args.index.now) (text_places (c.get_mut.follows.lender c.note.new.self)) c.args.place c.args.text.now c.note.new.self
    (text_found c.args.index.now (c.get_mut.follows.lender c.note.new.self) c.args.text.now _ ((c.get_mut.follows.holds c.note.new.self).3 (search rules)))
    (is ∙ ap (λ o. with_last c.args.place (or_none o)) c.in-Some.ensures.value))
    c.note.ensures.ok

pub returns-in-Some-clause-err : goal.returns-in-Some-clause-err
returns-in-Some-clause-err c = on_err_weaker c.note.result
    (λ is. same_again (text_places c.args.index.now) (text_places (c.get_mut.follows.lender c.note.new.self)) c.args.text.now c.in-Some.places.now c.note.new.self
    (text_found c.args.index.now (c.get_mut.follows.lender c.note.new.self) c.args.text.now _ ((c.get_mut.follows.holds c.note.new.self).3 (search rules)))
    (sym c.in-Some.ensures.value) is)
    c.note.ensures.err

-- the item is new
pub returns-clause-ok : goal.returns-clause-ok
returns-clause-ok c = noted_new (text_places c.args.index.now) (text_places c.get_mut.follows.lender-at-none) (text_places c.insert.new.self) c.args.text.now _ _ c.args.place (text_found c.get_mut.follows.lender-at-none c.insert.new.self _ _ c.in_ok-insert.ensures.updates)
    (ap text_places c.get_mut.follows.holds-at-none) c.in_ok-from_str.ensures.ok c.in_ok-places.ensures c.in_default.ensures.value
