use Rattle.std.proofs.Common.{◌≡◌}
use Rattle.folder_questions.specs.Plans.{texts_of}
use Rattle.folder_questions.proofs.plans.inputs_of.Given as goal

-- those so far
abbrev pub invariant-loop-item : goal.invariant-loop-item
invariant-loop-item l = texts_of l.inputs.items ≡ l.yielded
