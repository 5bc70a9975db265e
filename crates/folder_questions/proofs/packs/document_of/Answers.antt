use Rattle.trace_core.specs.Chains.{sites_at}
use Rattle.folder_questions.proofs.PackLemmas.{its_document}
use Rattle.folder_questions.proofs.packs.document_of.Goals as goal

pub returns-in-Some : goal.returns-in-Some
returns-in-Some c = λ closes. its_document (sites_at c.args.sites.now) c.args.pack.now c.in-Some.event.now c.packing_document.result c.in-Some.ensures.some c.packing_document.ensures.none c.packing_document.ensures.read

pub returns-in-None : goal.returns-in-None
returns-in-None c = λ (e, is). absurd (c.event_of.ensures.none c.in-None.is e is)
