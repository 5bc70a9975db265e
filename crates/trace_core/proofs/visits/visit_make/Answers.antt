use Rattle.std.proofs.Common.{sym, ap, subst, ◌∙◌}
use Rattle.event_json.specs.declared.bodies.Body.{Body}
use Rattle.trace_core.specs.Groups.{outs_of, first_of, group_outputs}
use Rattle.trace_core.specs.Looks.{LooksAtEach}
use Rattle.trace_core.specs.Pairs.{make_id}
use Rattle.trace_core.proofs.GainSteps.{gains_group, gains_again}
use Rattle.trace_core.proofs.GroupSteps.{was_seen, wasnt_seen, stays_seen, seen_now, one_new}
use Rattle.trace_core.proofs.LookSteps.{group_looked, group_passed}
use Rattle.trace_core.proofs.visits.visit_make.Goals as goal

-- the transformation is new
pub returns-in_ok-note_group-clause-gains : goal.returns-in_ok-note_group-clause-gains
returns-in_ok-note_group-clause-gains c =
    gains_group c.args.me c.args.book.now c.args.number c.args.place c.in-Some.event.now (sym c.in-Some.ensures) c.args.seen.now c.see.new.self c.first_part-first.result
    (λ j. c.first_part-first.ensures.outputs c.in-Some.event.now j (sym c.in-Some.ensures) (sym c.body.ensures.value) ∙ ap (λ (b : Body). outs_of c.args.book.now j b) c.body.ensures.value)
    c.in_ok-see.ensures.seen c.body-then-branch.result.now c.body-then-branch.ensures.value c.args.nodes.now c.note_group.new.nodes c.in_ok-note_group.ensures.noted

pub returns-in_ok-note_group-clause-looks : goal.returns-in_ok-note_group-clause-looks
returns-in_ok-note_group-clause-looks c = group_looked c.args.number c.args.book.now c.first_part-first.result c.args.seen.now c.see.new.self c.in_ok-see.ensures.seen
    (wasnt_seen _ c.in_ok-see.ensures.new c.if-branch.true)
    c.args.place c.in-Some.event.now (sym c.in-Some.ensures)
    (c.first_part-first.ensures.first ∙ ap (λ (b : Body). first_of c.args.book.now c.args.place b) c.body.ensures.value) c.args.looks.now _
    (subst (λ (b : Body). LooksAtEach (group_outputs c.args.book.now b (make_id b)) c.args.looks.now c.note_group.new.looks) c.body-then-branch.ensures.value
    (c.in_ok-note_group.ensures.looks c.in-Some.event.now (sym c.in-Some.ensures) (sym c.body-then-branch.ensures.value)))

pub returns-in_ok-note_group-clause-stays : goal.returns-in_ok-note_group-clause-stays
returns-in_ok-note_group-clause-stays c = stays_seen _ c.args.seen.now c.see.new.self c.in_ok-see.ensures.seen

pub returns-in_ok-note_group-clause-seen : goal.returns-in_ok-note_group-clause-seen
returns-in_ok-note_group-clause-seen c = seen_now c.args.number c.first_part-first.result c.args.place c.args.book.now c.in-Some.event.now c.args.seen.now c.see.new.self (sym c.in-Some.ensures)
    (c.first_part-first.ensures.first ∙ ap (λ (b : Body). first_of c.args.book.now c.args.place b) c.body.ensures.value) c.in_ok-see.ensures.seen

pub returns-in_ok-note_group-clause-new : goal.returns-in_ok-note_group-clause-new
returns-in_ok-note_group-clause-new c = one_new c.args.number c.first_part-first.result c.args.place c.args.book.now c.in-Some.event.now c.args.seen.now c.see.new.self (sym c.in-Some.ensures)
    (c.first_part-first.ensures.first ∙ ap (λ (b : Body). first_of c.args.book.now c.args.place b) c.body.ensures.value) c.in_ok-see.ensures.seen

-- it was seen before
pub returns-else-branch-clause-gains : goal.returns-else-branch-clause-gains
returns-else-branch-clause-gains c =
    gains_again c.args.me c.args.book.now c.args.number c.args.place c.in-Some.event.now (sym c.in-Some.ensures) c.args.seen.now c.see.new.self c.first_part-first.result
    (λ j. c.first_part-first.ensures.outputs c.in-Some.event.now j (sym c.in-Some.ensures) (sym c.body.ensures.value) ∙ ap (λ (b : Body). outs_of c.args.book.now j b) c.body.ensures.value)
    c.in_ok-see.ensures.seen (was_seen _ c.in_ok-see.ensures.new c.if-branch.false) c.args.nodes.now

pub returns-else-branch-clause-looks : goal.returns-else-branch-clause-looks
returns-else-branch-clause-looks c = group_passed c.args.number c.args.book.now c.first_part-first.result c.args.seen.now c.see.new.self c.args.looks.now c.in_ok-see.ensures.seen (was_seen _ c.in_ok-see.ensures.new c.if-branch.false)

pub returns-else-branch-clause-stays : goal.returns-else-branch-clause-stays
returns-else-branch-clause-stays c = stays_seen _ c.args.seen.now c.see.new.self c.in_ok-see.ensures.seen

pub returns-else-branch-clause-seen : goal.returns-else-branch-clause-seen
returns-else-branch-clause-seen c = seen_now c.args.number c.first_part-first.result c.args.place c.args.book.now c.in-Some.event.now c.args.seen.now c.see.new.self (sym c.in-Some.ensures)
    (c.first_part-first.ensures.first ∙ ap (λ (b : Body). first_of c.args.book.now c.args.place b) c.body.ensures.value) c.in_ok-see.ensures.seen

pub returns-else-branch-clause-new : goal.returns-else-branch-clause-new
returns-else-branch-clause-new c = one_new c.args.number c.first_part-first.result c.args.place c.args.book.now c.in-Some.event.now c.args.seen.now c.see.new.self (sym c.in-Some.ensures)
    (c.first_part-first.ensures.first ∙ ap (λ (b : Body). first_of c.args.book.now c.args.place b) c.body.ensures.value) c.in_ok-see.ensures.seen
