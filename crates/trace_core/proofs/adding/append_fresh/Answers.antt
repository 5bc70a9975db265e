use Rattle.std.proofs.Common.{sym, ap, ◌∙◌, length, arith}
use Rattle.std.specs.Vec.Iter.{into_iter_items}
use Rattle.std.proofs.lemmas.List.{nil_from_length}
use Rattle.trace_core.proofs.AddingSteps.{told_fresh, told_known, told_taken, told_end, front_more}
use Rattle.trace_core.proofs.Standings.{adding-stepwise}
use Rattle.trace_core.proofs.adding.append_fresh.Goals as goal

pub loop-event-preserved-in-Ok-Fresh : goal.loop-event-preserved-in-Ok-Fresh
loop-event-preserved-in-Ok-Fresh c =
    let pushed = rw c.in-Ok-Fresh.field-0-is at c.in-Ok-Fresh.ensures.ok in
    let stands = rw c.in-Ok-Fresh.field-0-is at c.in-Ok-Fresh.ensures.standing in
    record {
      can = c.loop-event.invariant.can;
      finite = c.loop-event.invariant.finite;
      front = rw pushed (front_more c.args.events.now c.loop-event.events c.in-Some.event c.loop-event.invariant.front);
      told = told_fresh _ _ _ _ _ _ _ c.in-Some.ensures.steps.0 c.loop-event.invariant.told _ pushed (sym stands);
      counted = omega (arith, ap length c.in-Some.ensures.steps.0);
      small = c.loop-event.invariant.small;
    }

pub loop-event-preserved : goal.loop-event-preserved
loop-event-preserved c =
    let kept = rw c.in-Ok-Known.field-0-is at c.in-Ok-Known.ensures.ok in
    let stands = rw c.in-Ok-Known.field-0-is at c.in-Ok-Known.ensures.standing in
    record {
      can = c.loop-event.invariant.can;
      finite = c.loop-event.invariant.finite;
      front = rw kept c.loop-event.invariant.front;
      told = rw kept (told_known _ _ _ _ _ _ _ c.in-Some.ensures.steps.0 c.loop-event.invariant.told (sym stands));
      counted = omega (arith, ap length c.in-Some.ensures.steps.0);
      small = c.loop-event.invariant.small;
    }

pub returns-in-Ok-Taken-clause-fault : goal.returns-in-Ok-Taken-clause-fault
returns-in-Ok-Taken-clause-fault c =
    let stands = rw c.in-Ok-Taken.field-0-is at c.in-Ok-Taken.ensures.standing in
    adding-stepwise c.args.events.now c.args.given.items ∙ told_taken _ _ _ _ _ _ _ c.in-Some.ensures.steps.0 c.loop-event.invariant.told (sym stands)

pub returns-clause-ok : goal.returns-clause-ok
returns-clause-ok c = adding-stepwise c.args.events.now c.args.given.items ∙ told_end _ _ _ _ _ (nil_from_length (into_iter_items c.loop-event.event-iterator) (omega (arith, c.in-None.ensures.steps.0))) c.loop-event.invariant.told
