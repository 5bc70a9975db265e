use Rattle.std.proofs.Common.{map, take}
use Rattle.std.specs.List.{AllZip}
use Rattle.folder_questions.specs.Audits.{AuditsRecall}
use Rattle.folder_questions.proofs.audits.audit_recalls.Given as goal

-- the recalls so far were audited
abbrev pub invariant-loop-recall : goal.invariant-loop-recall
invariant-loop-recall l = AllZip (AuditsRecall (map (λ r. r.now) l.records)) (take l.recall-index l.recall-items) l.audited.items
