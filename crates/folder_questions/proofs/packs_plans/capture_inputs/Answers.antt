use Rattle.std.proofs.Common.{ap, ◌∙◌}
use Rattle.std.proofs.lemmas.List.{take_all}
use Rattle.folder_questions.specs.PacksPlans.{text_at, texts_at}
use Rattle.folder_questions.specs.Plans.{texts_of}
use Rattle.folder_questions.proofs.PlanLemmas.{flat_more}
use Rattle.folder_questions.proofs.packs_plans.capture_inputs.Goals as goal

pub loop-document-preserved : goal.loop-document-preserved
loop-document-preserved c =
    flat_more (text_at c.args.site) c.args.documents.now c.loop-document.document-index c.document-item.result c.loop-document-test.true c.document-item.is (texts_of c.loop-document.inputs.items)
    (texts_of c.push_capture.new.inputs.items) c.loop-document.invariant c.in_ok-push_capture.ensures

pub returns : goal.returns
returns c = c.loop-document.invariant ∙ ap (texts_at c.args.site) (take_all c.loop-document.document-index c.args.documents.now c.loop-document-test.false)
