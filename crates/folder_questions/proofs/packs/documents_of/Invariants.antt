use Rattle.trace_core.specs.Chains.{sites_at}
use Rattle.folder_questions.specs.Packs.{AreThose, HaveDocuments}
use Rattle.folder_questions.proofs.packs.documents_of.Given as goal

-- the documents of those so far that are asked for
abbrev pub invariant-loop-pack : goal.invariant-loop-pack
invariant-loop-pack l = AreThose l.asked l.yielded l.documents.items × HaveDocuments (sites_at l.sites) l.documents.items
