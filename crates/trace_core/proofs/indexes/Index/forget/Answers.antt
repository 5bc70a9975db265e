use Rattle.std.proofs.Common.{ap, ◌∙◌, length}
use Rattle.event_json.specs.declared.bodies.Body.{Body}
use Rattle.trace_core.specs.Numbers.{names_of, moved_in}
use Rattle.trace_core.specs.Pairs.{make_id}
use Rattle.trace_core.specs.Places.{text_places, has_part}
use Rattle.trace_core.specs.PutIn.{children_in, parent_number}
use Rattle.trace_core.proofs.EventIdSteps.{ids_less}
use Rattle.trace_core.proofs.PackedSteps.{packed_less}
use Rattle.trace_core.proofs.PlaceLists.{forgets_id, id_of_body, index_less}
use Rattle.trace_core.proofs.indexes.Index.forget.Goals as goal

pub returns : goal.returns
returns c events last before = record {
  items = c.forget_members.ensures events last before.items;
  sent = c.forget_sent.ensures events c.args.event.now before.sent;
  packed = packed_less events c.args.event.now (children_in c.args.self.now.packed) (children_in c.forget.new.self) c.parent_number-parent.result c.moved_count.result
      (c.parent_number-parent.ensures ∙ ap (λ (b : Body). parent_number (names_of c.args.self.now.items) b) c.body.ensures.value ∙ ap (λ ns. parent_number ns c.args.event.now.body) before.items.names)
      (c.moved_count.ensures ∙ ap (λ (b : Body). length (moved_in b)) c.body-2.ensures.value) c.forget.ensures before.packed;
  ids = record {
    ids = ids_less c.args.self.now.ids c.forget-2.new.self events c.args.place last c.args.event.now _ c.id.ensures.value c.forget-2.ensures.keys c.forget-2.ensures.forgotten before.ids.ids;
    parts = index_less (text_places c.args.self.now.parts) (text_places c.forget_id.new.index) has_part events c.args.place last c.args.event.now
        (forgets_id _ _ c.args.place c.args.event.now _ (make_id c.args.event.now.body) (id_of_body _ c.body-3.result.now c.args.event.now c.make_id.ensures c.body-3.ensures.value) c.forget_id.ensures) before.ids.parts;
  };
}
