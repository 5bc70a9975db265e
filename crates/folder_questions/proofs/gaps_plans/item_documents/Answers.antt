use Rattle.std.proofs.Common.{◌≡◌, ◌↔◌, ◌∙◌, Bor, List, ap, subst}
use Rattle.std.specs.List.{Contains}
use Rattle.std.proofs.lemmas.Result.{IfOk-weaker}
use Rattle.gap_core.specs.GapPacks.{IsItemPack}
use Rattle.gap_core.specs.declared.packs.GapPack.{GapPack}
use Rattle.site_recovery.specs.Checking.{records_at}
use Rattle.site_recovery.specs.Laws.{captured_of}
use Rattle.trace_core.specs.Chains.{sites_at}
use Rattle.trace_core.specs.Sites.{SiteEvents}
use Rattle.folder_questions.specs.Packs.{HaveDocuments}
use Rattle.folder_questions.proofs.GapsPlanLemmas.{are_item_documents}
use Rattle.folder_questions.proofs.gaps_plans.item_documents.Goals as goal

pub returns : goal.returns
returns c =
    let all = captured_of (records_at c.args.records.now) in
    let those : (refs : List (Bor SiteEvents)) → refs ≡ c.in_ok-captured.captured.items → sites_at refs ≡ all = λ refs same. ap sites_at same ∙ c.in_ok-captured.ensures in
    IfOk-weaker c.documents_of.result _ _
    (λ documents told. are_item_documents all c.args.site c.args.items.now c.in_ok-packs.packs.items documents.items c.in_ok-packs.ensures.ascending
    (subst (λ (ss : List SiteEvents). (p : GapPack) → Contains c.in_ok-packs.packs.items p ↔ IsItemPack ss c.args.site c.args.items.now p) (those c.as_slice.result.now c.as_slice.ensures.value) c.in_ok-packs.ensures.exact)
    told.0 (subst (λ (ss : List SiteEvents). HaveDocuments ss documents.items) (those c.as_slice-2.result.now c.as_slice-2.ensures.value) told.1))
    c.documents_of.ensures
