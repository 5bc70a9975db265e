use Rattle.std.proofs.Common.{◌+◌, map, take, sym, subst}
use Rattle.std.specs.List.{AllZip}
use Rattle.trace_core.proofs.Zips.{zip_more}
use Rattle.folder_questions.specs.Audits.{AuditsRecall}
use Rattle.folder_questions.proofs.audits.audit_recalls.Goals as goal

pub loop-recall-preserved : goal.loop-recall-preserved
loop-recall-preserved c =
    let records = map (λ r. r.now) c.args.records.now in
    let recalls = c.deref-recall-items.result.now in
    let i = c.loop-recall.recall-index in
    subst (λ xs. AllZip (AuditsRecall records) (take (i + 1) recalls) xs) (sym c.in_ok-push.ensures.items)
    (zip_more (AuditsRecall records) recalls c.loop-recall.audited.items i c.recall-item.result c.in_ok-audit_recall.field-0 c.loop-recall-test.true c.recall-item.is c.loop-recall.invariant c.in_ok-audit_recall.ensures)
