use Rattle.std.proofs.Common.{slice_get, subst, arith}
use Rattle.std.proofs.lemmas.List.{get_or_default}
use Rattle.trace_core.specs.Groups.{outputs_at}
use Rattle.trace_core.specs.Nodes.{NotesNodes, made_nodes, part_nodes}
use Rattle.trace_core.proofs.LookSteps.{looks_more, looks_of_each}
use Rattle.trace_core.proofs.NodeSteps.{one_part, each_part}
use Rattle.trace_core.proofs.visits.note_parts.Goals as goal

pub loop-place-preserved : goal.loop-place-preserved
loop-place-preserved c = record {
  noted = one_part c.args.nodes.now c.loop-place.nodes c.note_outputs.new.self (λ k. part_nodes c.args.me c.args.book.now c.args.number k) c.args.places.now c.loop-place.place-index _ (omega (arith, c.loop-place-test.true))
      (get_or_default c.args.places.now c.loop-place.place-index 0 _ (omega (arith, c.loop-place-test.true))) c.loop-place.invariant.noted
      (subst (λ ns. NotesNodes c.loop-place.nodes c.note_outputs.new.self (made_nodes c.args.me c.args.number ns)) c.outs_at-outs.ensures.outs c.in_ok-note_outputs.ensures);
  looks = looks_more (λ k. outputs_at (slice_get c.args.book.now k)) c.args.places.now c.loop-place.place-index _ _ _ _ (omega (arith, c.loop-place-test.true))
      (get_or_default c.args.places.now c.loop-place.place-index 0 _ (omega (arith, c.loop-place-test.true))) c.loop-place.invariant.looks
      c.outs_at-outs.ensures.each;
}

pub returns-clause-noted : goal.returns-clause-noted
returns-clause-noted c = each_part c.args.nodes.now c.loop-place.nodes (λ k. part_nodes c.args.me c.args.book.now c.args.number k) c.args.places.now c.loop-place.place-index (omega (arith, c.loop-place-test.false)) c.loop-place.invariant.noted

pub returns-clause-looks : goal.returns-clause-looks
returns-clause-looks c = looks_of_each (λ k. outputs_at (slice_get c.args.book.now k)) c.args.places.now c.loop-place.place-index _ _ (omega (arith, c.loop-place-test.false)) c.loop-place.invariant.looks
