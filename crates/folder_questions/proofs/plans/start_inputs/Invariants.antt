use Rattle.std.proofs.Common.{◌≡◌, ◌∷◌}
use Rattle.folder_questions.specs.Plans.{texts_of}
use Rattle.folder_questions.proofs.plans.start_inputs.Given as goal

-- those so far
abbrev pub invariant-loop-other : goal.invariant-loop-other
invariant-loop-other l = texts_of l.inputs.items ≡ l.item ∷ l.yielded
