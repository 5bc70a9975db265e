use Rattle.std.proofs.lemmas.Result.{IfOk-weaker}
use Rattle.trace_core.specs.Chains.{sites_at}
use Rattle.folder_questions.proofs.PackLemmas.{are_documents}
use Rattle.folder_questions.proofs.packs.pack_documents.Goals as goal

pub returns : goal.returns
returns c =
    IfOk-weaker c.documents_of.result _ _
    (λ documents those. are_documents (sites_at c.args.sites.now) c.args.asked.now c.in_ok-packs.packs.items documents.items c.in_ok-packs.ensures.ascending c.in_ok-packs.ensures.exact those.0 those.1) c.documents_of.ensures
