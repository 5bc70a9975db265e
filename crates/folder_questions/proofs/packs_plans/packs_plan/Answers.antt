use Rattle.std.proofs.Common.{◌∙◌, List, ap, sym, subst}
use Rattle.std.specs.List.{flat_map}
use Rattle.site_recovery.specs.Checking.{records_at}
use Rattle.trace_core.specs.Chains.{sites_at}
use Rattle.trace_core.specs.Sites.{SiteEvents}
use Rattle.folder_questions.specs.Packs.{ArePackDocuments}
use Rattle.folder_questions.specs.PacksPlans.{ArePlannedCaptures, captured_at}
use Rattle.folder_questions.specs.Plans.{Outline}
use Rattle.folder_questions.specs.declared.packs.PackDocument.{PackDocument}
use Rattle.folder_questions.proofs.PacksPlanLemmas.{planned_captures}
use Rattle.folder_questions.proofs.packs_plans.packs_plan.Goals as goal

pub returns : goal.returns
returns c =
    let records = records_at c.args.records.now in
    let documents = c.in_ok-documents.documents.items in
    let are = subst (λ (ss : List SiteEvents). ArePackDocuments ss c.args.asked documents) (ap sites_at c.as_slice.ensures.value ∙ c.in_ok-captured.ensures) c.in_ok-documents.ensures in
    let plan = c.in_ok-plan.ensures ∙ ap (λ (ds : List PackDocument). flat_map (captured_at ds) records) c.as_slice-2.ensures.value in
    (documents, are, subst (λ (os : List Outline). ArePlannedCaptures documents os) (sym plan) (planned_captures records c.requires.all c.args.asked documents are))
