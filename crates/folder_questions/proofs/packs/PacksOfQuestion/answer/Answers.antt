use Rattle.std.proofs.Common.{◌≡◌, ◌∙◌, List, ap, subst}
use Rattle.site_recovery.specs.Checking.{records_at}
use Rattle.site_recovery.specs.Laws.{captured_of}
use Rattle.trace_core.specs.Chains.{sites_at}
use Rattle.trace_core.specs.Sites.{SiteEvents}
use Rattle.folder_questions.specs.Packs.{ArePackDocuments}
use Rattle.folder_questions.proofs.packs.PacksOfQuestion.answer.Goals as goal

pub returns : goal.returns
returns c =
    let same : sites_at c.as_slice.result.now ≡ captured_of (records_at c.args.records.now) = ap sites_at c.as_slice.ensures.value ∙ c.in_ok-captured.ensures in
    record { answered = subst (λ (ss : List SiteEvents). ArePackDocuments ss c.args.asked c.in_ok-documents.documents.items) same c.in_ok-documents.ensures }
