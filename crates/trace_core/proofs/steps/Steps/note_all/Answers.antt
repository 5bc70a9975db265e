use Rattle.std.proofs.Common.{rules, ◌∷◌, [], ◌++◌, sym, ap, ◌∙◌, append_assoc}
use Rattle.std.specs.Vec.Iter.{into_iter_items}
use Rattle.trace_core.proofs.TrailSteps.{no_steps, steps_then}
use Rattle.trace_core.proofs.steps.Steps.note_all.Goals as goal

pub loop-target-preserved : goal.loop-target-preserved
loop-target-preserved c = record {
  noted = steps_then _ _ _ _ _ _ c.loop-target.invariant.noted c.in_ok-note.ensures;
  parts = c.loop-target.invariant.parts ∙ ap (λ xs. c.loop-target.yielded ++ xs) c.in-Some.ensures.steps.0 ∙ sym (append_assoc c.loop-target.yielded (c.in-Some.target ∷ []) (into_iter_items c.next.new.self));
}

pub loop-target-init : goal.loop-target-init
loop-target-init c = record {
  noted = no_steps _ _;
  parts = search rules;
}
