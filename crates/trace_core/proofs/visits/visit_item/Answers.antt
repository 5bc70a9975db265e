use Rattle.std.proofs.Common.{List, get_or, slice_get, ap, subst, ◌∙◌, arith}
use Rattle.std.proofs.lemmas.List.{get_or_default}
use Rattle.event_json.specs.Events.{Content}
use Rattle.trace_core.specs.Groups.{IsSeenAt, SeesAt, LooksAtUnseen}
use Rattle.trace_core.specs.Numbers.{numbered}
use Rattle.trace_core.specs.Places.{places_where, takes_item}
use Rattle.trace_core.proofs.GainSteps.{gains_sent, one_place, all_places}
use Rattle.trace_core.proofs.GroupSteps.{sees_none, sees_both, stays_both, seen_nowhere, one_place_seen, all_places_seen, none_new, one_place_new, all_places_new}
use Rattle.trace_core.proofs.LookSteps.{looks_both, looks_none}
use Rattle.trace_core.proofs.visits.visit_item.Goals as goal

pub loop-place-init : goal.loop-place-init
loop-place-init c = record {
  gains = gains_sent c.args.ships c.args.site.now c.args.number c.args.item c.takers_at-place-items.result.now c.me.result c.book-book.result.now c.args.seen.now c.args.nodes.now c.note_sent.new.nodes c.me.ensures c.book-book.ensures c.in_ok-note_sent.ensures;
  only = sees_none c.args.number c.args.seen.now;
  stays = λ g there. there;
  seen = seen_nowhere c.args.number c.args.site.now.events c.takers_at-place-items.result.now c.args.seen.now;
  new = none_new c.args.number c.args.site.now.events c.takers_at-place-items.result.now c.args.seen.now;
  looks = subst (λ n. LooksAtUnseen c.args.number c.args.site.now.events c.args.seen.now c.args.seen.now n c.takers_at-place-items.new.looks) c.takers_at-place-items.ensures.counted
      (looks_none c.args.number c.args.site.now.events c.args.seen.now c.takers_at-place-items.new.looks);
}

pub loop-place-preserved : goal.loop-place-preserved
loop-place-preserved c = record {
  gains = one_place c.args.ships c.args.site.now c.args.number c.args.item c.takers_at-place-items.result.now c.loop-place.place-index _ c.me-in-loop-place.result c.book-book.result.now
      c.args.seen.now c.loop-place.seen c.visit_make.new.seen c.args.nodes.now c.loop-place.nodes c.visit_make.new.nodes (omega (arith, c.loop-place-test.true))
      (get_or_default c.takers_at-place-items.result.now c.loop-place.place-index 0 _ (omega (arith, c.loop-place-test.true)))
      c.me-in-loop-place.ensures c.book-book.ensures c.loop-place.invariant.gains c.in_ok-visit_make.ensures.gains;
  only = sees_both c.args.number c.args.seen.now c.loop-place.seen c.visit_make.new.seen c.loop-place.invariant.only c.in_ok-visit_make.ensures.only;
  stays = stays_both c.args.seen.now c.loop-place.seen c.visit_make.new.seen c.loop-place.invariant.stays c.in_ok-visit_make.ensures.stays;
  seen = one_place_seen c.args.number c.args.site.now.events c.takers_at-place-items.result.now c.loop-place.place-index _ c.loop-place.seen c.visit_make.new.seen (omega (arith, c.loop-place-test.true))
      (get_or_default c.takers_at-place-items.result.now c.loop-place.place-index 0 _ (omega (arith, c.loop-place-test.true))) c.in_ok-visit_make.ensures.stays c.loop-place.invariant.seen
      (subst (λ (es : List Content). IsSeenAt c.args.number es c.visit_make.new.seen (get_or c.takers_at-place-items.result.now c.loop-place.place-index 0)) c.book-book.ensures c.in_ok-visit_make.ensures.seen);
  new = one_place_new c.args.number c.args.site.now.events c.takers_at-place-items.result.now c.loop-place.place-index _ c.args.seen.now c.loop-place.seen c.visit_make.new.seen (omega (arith, c.loop-place-test.true))
      (get_or_default c.takers_at-place-items.result.now c.loop-place.place-index 0 _ (omega (arith, c.loop-place-test.true))) c.loop-place.invariant.new
      (subst (λ (es : List Content). SeesAt c.args.number es c.loop-place.seen c.visit_make.new.seen (get_or c.takers_at-place-items.result.now c.loop-place.place-index 0)) c.book-book.ensures c.in_ok-visit_make.ensures.new);
  looks = looks_both c.args.number c.args.site.now.events c.args.seen.now c.loop-place.seen c.visit_make.new.seen _ _ _ c.loop-place.invariant.looks
      (subst (λ (es : List Content). LooksAtUnseen c.args.number es c.loop-place.seen c.visit_make.new.seen c.loop-place.looks c.visit_make.new.looks) c.book-book.ensures c.in_ok-visit_make.ensures.looks);
}

pub returns-clause-gains : goal.returns-clause-gains
returns-clause-gains c = all_places c.args.ships c.args.site.now c.args.number c.args.item c.takers_at-place-items.result.now c.loop-place.place-index c.book-book.result.now
    c.args.seen.now c.loop-place.seen c.args.nodes.now c.loop-place.nodes (omega (arith, c.loop-place-test.false)) c.book-book.ensures
    c.takers_at-place-items.ensures.takers c.loop-place.invariant.gains

pub returns-clause-takers : goal.returns-clause-takers
returns-clause-takers c i so = all_places_seen c.args.number c.args.site.now.events c.takers_at-place-items.result.now c.loop-place.place-index i c.loop-place.seen (omega (arith, c.loop-place-test.false))
    (c.takers_at-place-items.ensures.takers i (ap (λ (es : List Content). slice_get (numbered es) c.args.item) c.book-book.ensures ∙ so) ∙ ap (λ (es : List Content). places_where (takes_item i) es) c.book-book.ensures)
    c.loop-place.invariant.seen

pub returns-clause-new : goal.returns-clause-new
returns-clause-new c i so = all_places_new c.args.number c.args.site.now.events c.takers_at-place-items.result.now c.loop-place.place-index i c.args.seen.now c.loop-place.seen (omega (arith, c.loop-place-test.false))
    (c.takers_at-place-items.ensures.takers i (ap (λ (es : List Content). slice_get (numbered es) c.args.item) c.book-book.ensures ∙ so) ∙ ap (λ (es : List Content). places_where (takes_item i) es) c.book-book.ensures)
    c.loop-place.invariant.new
