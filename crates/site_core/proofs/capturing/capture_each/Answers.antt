use Rattle.std.proofs.Common.{◌≡◌, ◌+◌, ◌∷◌, refl, sym, ap, subst, length, arith, rules}
use Rattle.std.specs.Vec.Iter.{into_iter_items}
use Rattle.std.proofs.lemmas.List.{nil_from_length}
use Rattle.trace_core.specs.Adding.{with_fresh}
use Rattle.site_core.specs.Blocks.{Passes}
use Rattle.site_core.specs.Capturing.{TellsRefusal}
use Rattle.site_core.proofs.Captures.{SoFar, begun, all_captured, kept_next, other_next, told_refusal, handed_on}
use Rattle.site_core.proofs.JoinedParts.{closed_passed}
use Rattle.site_core.proofs.capturing.capture_each.Goals as goal

pub loop-event-init : goal.loop-event-init
loop-event-init c =
    let gives : into_iter_items c.into_iter-event-iterator.result ≡ c.args.given.items = c.into_iter-event-iterator.ensures.into_iter_gives.0 in
    record {
      can = tt;
      finite = tt;
      so_far = subst (λ xs. SoFar c.args.captured.now c.args.quarantine.now c.args.given.items c.args.captured.now 0 0 xs) (sym gives) (begun c.args.captured.now c.args.quarantine.now c.args.given.items);
      counted = omega (arith, ap length gives);
      small = search rules;
      closed = c.requires.closed;
    }

pub returns-in_err-capture_event-clause-fault : goal.returns-in_err-capture_event-clause-fault
returns-in_err-capture_event-clause-fault c =
    handed_on c.from_residual.result c.in_err-capture_event.field-0.0 (TellsRefusal c.args.captured.now c.args.quarantine.now c.args.given.items) c.from_residual.ensures.1
    (told_refusal c.args.captured.now c.args.quarantine.now c.args.given.items c.loop-event.captured c.loop-event.added.fresh c.loop-event.added.known (into_iter_items c.loop-event.event-iterator) c.loop-event.invariant.so_far
    c.in-Some.event (into_iter_items c.next.new.self) c.in-Some.ensures.steps.0 (c.loop-event.added.fresh + c.loop-event.added.known + 1) refl c.in_err-capture_event.field-0.0 c.in_err-capture_event.ensures.refused)

pub loop-event-preserved-in-Fresh : goal.loop-event-preserved-in-Fresh
loop-event-preserved-in-Fresh c =
    let next : into_iter_items c.loop-event.event-iterator ≡ c.in-Some.event ∷ into_iter_items c.next.new.self = c.in-Some.ensures.steps.0 in
    let passed = subst (λ st. Passes c.loop-event.captured c.args.quarantine.now c.in-Some.event st) c.in-Fresh.is c.in_ok-capture_event.ensures.passed in
    let new = subst (λ st. c.capture_event.new.captured ≡ record c.loop-event.captured { events = with_fresh c.loop-event.captured.events c.in-Some.event st }) c.in-Fresh.is c.in_ok-capture_event.ensures.ok in
    record {
      can = tt;
      finite = tt;
      so_far = kept_next c.args.captured.now c.args.quarantine.now c.args.given.items c.loop-event.captured c.loop-event.added.fresh c.loop-event.added.known (into_iter_items c.loop-event.event-iterator) c.loop-event.invariant.so_far
          c.in-Some.event (into_iter_items c.next.new.self) next c.capture_event.new.captured new passed.0 passed.1;
      counted = omega (arith, ap length next, c.loop-event.invariant.counted);
      small = c.loop-event.invariant.small;
      closed = λ told. closed_passed c.loop-event.captured c.args.quarantine.now c.in-Some.event (c.loop-event.invariant.closed told) c.in_ok-capture_event.field-0 c.capture_event.new.captured c.in_ok-capture_event.ensures.passed c.in_ok-capture_event.ensures.ok;
    }

pub loop-event-preserved : goal.loop-event-preserved
loop-event-preserved c =
    let next : into_iter_items c.loop-event.event-iterator ≡ c.in-Some.event ∷ into_iter_items c.next.new.self = c.in-Some.ensures.steps.0 in
    record {
      can = tt;
      finite = tt;
      so_far = other_next c.args.captured.now c.args.quarantine.now c.args.given.items c.loop-event.captured c.loop-event.added.fresh c.loop-event.added.known (into_iter_items c.loop-event.event-iterator) c.loop-event.invariant.so_far
          c.in-Some.event (into_iter_items c.next.new.self) next c.capture_event.new.captured c.in_ok-capture_event.field-0 c.in_ok-capture_event.ensures.passed c.in_default.not-Fresh c.in_ok-capture_event.ensures.ok;
      counted = omega (arith, ap length next, c.loop-event.invariant.counted);
      small = c.loop-event.invariant.small;
      closed = λ told. closed_passed c.loop-event.captured c.args.quarantine.now c.in-Some.event (c.loop-event.invariant.closed told) c.in_ok-capture_event.field-0 c.capture_event.new.captured c.in_ok-capture_event.ensures.passed c.in_ok-capture_event.ensures.ok;
    }

pub returns-clause-ok : goal.returns-clause-ok
returns-clause-ok c = all_captured c.args.captured.now c.args.quarantine.now c.args.given.items c.loop-event.captured c.loop-event.added.fresh c.loop-event.added.known (into_iter_items c.loop-event.event-iterator) c.loop-event.invariant.so_far
    (nil_from_length (into_iter_items c.loop-event.event-iterator) (omega (arith, c.in-None.ensures.steps.0)))
