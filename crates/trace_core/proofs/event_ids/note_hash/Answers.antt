use Rattle.std.proofs.Common.{rules, sym, ap, refl, ◌∙◌}
use Rattle.std.proofs.lemmas.Result.{on_ok_weaker, on_err_weaker}
use Rattle.trace_core.specs.EventIds.{hash_key, hash_places}
use Rattle.trace_core.specs.Places.{with_last, or_none}
use Rattle.trace_core.proofs.EventIdSteps.{hash_found}
use Rattle.trace_core.proofs.PlaceSteps.{noted_key, noted_new, same_again}
use Rattle.trace_core.proofs.event_ids.note_hash.Goals as goal

pub returns-in-Some-clause-ok : goal.returns-in-Some-clause-ok
returns-in-Some-clause-ok c = on_ok_weaker c.note.result
    (λ is. noted_key (hash_places c.args.index.now) (hash_places (c.get_mut.follows.lender c.note.new.self)) c.args.place (hash_key c.args.hash) c.note.new.self
    (hash_found c.args.index.now (c.get_mut.follows.lender c.note.new.self) c.args.hash _ ((c.get_mut.follows.holds c.note.new.self).3 (search rules)))
    (is ∙ ap (λ o. with_last c.args.place (or_none o)) c.in-Some.ensures.value))
    c.note.ensures.ok

pub returns-in-Some-clause-err : goal.returns-in-Some-clause-err
returns-in-Some-clause-err c = on_err_weaker c.note.result
    (λ is. same_again (hash_places c.args.index.now) (hash_places (c.get_mut.follows.lender c.note.new.self)) (hash_key c.args.hash) c.in-Some.places.now c.note.new.self
    (hash_found c.args.index.now (c.get_mut.follows.lender c.note.new.self) c.args.hash _ ((c.get_mut.follows.holds c.note.new.self).3 (search rules)))
    (sym c.in-Some.ensures.value) is)
    c.note.ensures.err

-- the hash is new
pub returns-clause-ok : goal.returns-clause-ok
returns-clause-ok c = noted_new (hash_places c.args.index.now) (hash_places c.get_mut.follows.lender-at-none) (hash_places c.insert.new.self) (hash_key c.args.hash) (hash_key c.args.hash) _ c.args.place (hash_found c.get_mut.follows.lender-at-none c.insert.new.self c.args.hash _ c.in_ok-insert.ensures.updates)
    (ap hash_places c.get_mut.follows.holds-at-none) refl c.in_ok-places.ensures c.in_default.ensures.value
