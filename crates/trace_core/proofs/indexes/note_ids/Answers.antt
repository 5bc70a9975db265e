use Rattle.trace_core.specs.Pairs.{make_id}
use Rattle.trace_core.specs.Places.{text_places, has_part}
use Rattle.trace_core.proofs.EventIdSteps.{ids_more, ids_less}
use Rattle.trace_core.proofs.PlaceLists.{notes_id, id_of_body, index_more, index_unchanged}
use Rattle.trace_core.proofs.indexes.note_ids.Goals as goal

pub returns-in-Ok-clause-ok : goal.returns-in-Ok-clause-ok
returns-in-Ok-clause-ok c events last before = record {
  ids = ids_more c.args.ids.now c.note.new.self events c.args.place last c.args.event.now _ c.id.ensures.value c.note.ensures.keys c.in_ok-note.ensures.ok before.ids;
  parts = index_more (text_places c.args.parts.now) (text_places c.note_id.new.index) has_part events c.args.place last c.args.event.now
      (notes_id _ _ c.args.place c.args.event.now _ (make_id c.args.event.now.body) (id_of_body _ c.body.result.now c.args.event.now c.make_id.ensures c.body.ensures.value) c.in-Ok.ensures.ok) before.parts;
}

-- the id of a transformation wasn't noted
pub returns-in-Err-clause-err : goal.returns-in-Err-clause-err
returns-in-Err-clause-err c events last before = record {
  ids = ids_less c.note.new.self c.forget.new.self events c.args.place last c.args.event.now _ c.id-in-Err.ensures.value c.forget.ensures.keys c.forget.ensures.forgotten
      (ids_more c.args.ids.now c.note.new.self events c.args.place last c.args.event.now _ c.id.ensures.value c.note.ensures.keys c.in_ok-note.ensures.ok before.ids);
  parts = index_unchanged (text_places c.args.parts.now) (text_places c.note_id.new.index) has_part events c.in-Err.ensures.err before.parts;
}
