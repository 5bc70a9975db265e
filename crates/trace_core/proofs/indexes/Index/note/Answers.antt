use Rattle.std.proofs.Common.{List, ℕ, ◌∷◌, [], ◌++◌, take, sym, ap, subst, ◌∙◌}
use Rattle.event_json.specs.declared.bodies.Body.{Body}
use Rattle.trace_core.specs.declared.event_items.Members.{Members}
use Rattle.trace_core.specs.declared.sendings.Sending.{Sending}
use Rattle.trace_core.specs.Numbers.{HasMembers, names_of, numbers_of, outs_in, moved_in}
use Rattle.trace_core.specs.PutIn.{children_in, parent_number}
use Rattle.trace_core.specs.Sendings.{HasSent}
use Rattle.trace_core.proofs.IndexSteps.{items_noted, names_noted, items_kept, names_kept, items_undone, names_undone, members_more, count_names}
use Rattle.trace_core.proofs.PackedSteps.{packed_more, packed_again}
use Rattle.trace_core.proofs.PlaceSteps.{after_fault}
use Rattle.trace_core.proofs.SendingSteps.{all_sent, event_more, extends_back}
use Rattle.trace_core.proofs.indexes.Index.note.Goals as goal

-- the items weren't noted
pub returns-in_err-numbers-clause-err : goal.returns-in_err-numbers-clause-err
returns-in_err-numbers-clause-err c = after_fault c.from_residual-in_err-numbers.result (λ events last before. record {
  items = record {
    places = items_kept c.args.self.now.items events c.args.place last before.items.names before.items.places c.note_items_of.new.known c.in_err-numbers.ensures.err;
    names = names_kept c.args.self.now.items events c.args.place last before.items.names before.items.places c.note_items_of.new.known c.in_err-numbers.ensures.err;
    members = subst (λ (ms : List Members). HasMembers events ms) (sym c.in_ok-reserve.ensures.items) before.items.members;
  };
  ids = before.ids;
  sent = subst (λ (ns : List ℕ). HasSent events c.args.self.now.sent ns) (sym c.in_ok-reserve-2.ensures.items) before.sent;
  packed = before.packed;
})

pub returns-in-Ok-clause-ok : goal.returns-in-Ok-clause-ok
returns-in-Ok-clause-ok c events last before =
    let names = names_noted c.args.self.now.items events c.args.place last before.items.names before.items.places c.note_items_of.new.known c.args.event.now c.body.result.now c.body.ensures.value c.in_ok-numbers.ensures.ok in
    let parent = c.parent_number-parent.ensures ∙ ap (λ (b : Body). parent_number (names_of c.note_items_of.new.known) b) c.body-2.ensures.value ∙ ap (λ ns. parent_number ns c.args.event.now.body) names in
    let numbers = c.in_ok-numbers.ensures.numbers ∙ ap (λ (b : Body). numbers_of (names_of c.note_items_of.new.known) (moved_in b)) c.body.ensures.value in
    let moved = c.as_slice.ensures ∙ numbers ∙ ap (λ ns. numbers_of ns (moved_in c.args.event.now.body)) names in
    record {
      items = record {
        places = items_noted c.args.self.now.items events c.args.place last before.items.names before.items.places c.note_items_of.new.known c.args.event.now c.body.result.now c.body.ensures.value c.in_ok-numbers.ensures.ok;
        names = names;
        members = subst (λ (ms : List Members). HasMembers (events ++ c.args.event.now ∷ []) ms) (sym c.push_reserved.ensures.items)
            (members_more events c.args.event.now c.reserve.new.self.items _ (subst (λ (ms : List Members). HasMembers events ms) (sym c.in_ok-reserve.ensures.items) before.items.members)
            (c.len-known.ensures ∙ sym (count_names c.args.self.now.items events before.items.names))
            (c.kept_numbers-outs.ensures (names_of c.note_items_of.new.known) (numbers ∙ ap (λ (b : Body). numbers_of (names_of c.note_items_of.new.known) (moved_in b)) (sym c.body-in-Ok.ensures.value))
            ∙ ap (λ (b : Body). numbers_of (names_of c.note_items_of.new.known) (outs_in b)) c.body-in-Ok.ensures.value ∙ ap (λ ns. numbers_of ns (outs_in c.args.event.now.body)) names));
      };
      ids = c.in-Ok.ensures.ok events last before.ids;
      sent = subst (λ (ns : List ℕ). HasSent (events ++ c.args.event.now ∷ []) c.note_rest.new.sent ns)
          (sym (c.push_reserved-in-Ok.ensures.items ∙ ap (λ ns. ns ++ c.len-before.result ∷ []) c.in_ok-reserve-2.ensures.items ∙ ap (λ n. c.args.self.now.counts.items ++ n ∷ []) c.len-before.ensures))
          (event_more events c.args.self.now.sent c.args.self.now.counts.items before.sent c.args.event.now c.note_rest.new.sent c.note_rest.ensures.front
          (all_sent events c.args.event.now c.args.self.now.sent c.note_rest.new.sent (children_in c.args.self.now.packed) c.as_slice.result.now c.parent_number-parent.result before.sent.all before.packed parent moved c.in-Ok.ensures.sent));
      packed = packed_more events c.args.event.now (children_in c.args.self.now.packed) (children_in c.note_rest.new.packed) c.parent_number-parent.result c.as_slice.result.now parent moved c.in-Ok.ensures.packed before.packed;
    }

-- the rest wasn't
pub returns-in-Err-clause-err : goal.returns-in-Err-clause-err
returns-in-Err-clause-err c events last before = record {
  items = record {
    places = items_undone c.args.self.now.items events c.args.place last before.items.names before.items.places c.note_items_of.new.known c.forget_items_of.new.known c.args.event.now c.body.result.now c.body-in-Err.result.now
        c.body.ensures.value c.body-in-Err.ensures.value c.len-known.result c.len-known.ensures c.in_ok-numbers.ensures.ok c.forget_items_of.ensures;
    names = names_undone c.args.self.now.items events c.args.place last before.items.names before.items.places c.note_items_of.new.known c.forget_items_of.new.known c.args.event.now c.body.result.now c.body-in-Err.result.now
        c.body.ensures.value c.body-in-Err.ensures.value c.len-known.result c.len-known.ensures c.in_ok-numbers.ensures.ok c.forget_items_of.ensures;
    members = subst (λ (ms : List Members). HasMembers events ms) (sym c.in_ok-reserve.ensures.items) before.items.members;
  };
  ids = c.in-Err.ensures.err events last before.ids;
  sent = subst (λ (log : List Sending). HasSent events log c.reserve-2.new.self.items)
      (sym (c.truncate.ensures ∙ ap (λ n. take n c.note_rest.new.sent) c.len-before.ensures ∙ extends_back c.args.self.now.sent c.note_rest.new.sent c.note_rest.ensures.front))
      (subst (λ (ns : List ℕ). HasSent events c.args.self.now.sent ns) (sym c.in_ok-reserve-2.ensures.items) before.sent);
  packed = packed_again events c.args.event.now (children_in c.args.self.now.packed) (children_in c.note_rest.new.packed) c.in-Err.ensures.kept before.packed;
}
