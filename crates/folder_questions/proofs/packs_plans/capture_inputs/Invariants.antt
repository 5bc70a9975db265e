use Rattle.std.proofs.Common.{◌≡◌, take}
use Rattle.folder_questions.specs.PacksPlans.{texts_at}
use Rattle.folder_questions.specs.Plans.{texts_of}
use Rattle.folder_questions.proofs.packs_plans.capture_inputs.Given as goal

-- those so far
abbrev pub invariant-loop-document : goal.invariant-loop-document
invariant-loop-document l = texts_of l.inputs.items ≡ texts_at l.site (take l.document-index l.documents)
