use Rattle.std.proofs.Common.{refl}
use Rattle.trace_core.specs.Chains.{sites_at}
use Rattle.folder_questions.proofs.PackLemmas.{document_more}
use Rattle.folder_questions.proofs.packs.note_document.Goals as goal

pub returns-clause-each : goal.returns-clause-each
returns-clause-each c = document_more (sites_at c.args.sites.now) c.args.pack c.args.documents.now.items c.push.new.self.items _ c.in_ok-push.ensures.items refl c.in_ok-document.ensures
