use Rattle.std.proofs.Common.{◌+◌, List, take, sym, subst}
use Rattle.std.specs.Borrow.{Bor}
use Rattle.std.specs.List.{AllZip}
use Rattle.std.proofs.lemmas.List.{take_all}
use Rattle.site_core.specs.Records.{Record}
use Rattle.trace_core.proofs.Zips.{zip_more}
use Rattle.recall_outcomes.specs.declared.outcomes.SiteCoverage.{SiteCoverage}
use Rattle.folder_questions.specs.Coverage.{Covers}
use Rattle.folder_questions.proofs.CoverageLemmas.{zip_mapped}
use Rattle.folder_questions.proofs.coverage.all_covered.Goals as goal

pub loop-record-preserved : goal.loop-record-preserved
loop-record-preserved c =
    let R : Bor Record → SiteCoverage → Type 0 = λ ref found. Covers ref.now found in
    let i = c.loop-record.record-index in
    subst (λ xs. AllZip R (take (i + 1) c.args.records.now) xs) (sym c.in_ok-push.ensures.items)
    (zip_more R c.args.records.now c.loop-record.found.items i c.record-item.result c.in_ok-covered.field-0 c.loop-record-test.true c.record-item.is c.loop-record.invariant c.in_ok-covered.ensures)

pub returns : goal.returns
returns c =
    let R : Bor Record → SiteCoverage → Type 0 = λ ref found. Covers ref.now found in
    zip_mapped (λ ref. ref.now) Covers c.args.records.now c.loop-record.found.items
    (subst (λ (refs : List (Bor Record)). AllZip R refs c.loop-record.found.items) (take_all c.loop-record.record-index c.args.records.now c.loop-record-test.false) c.loop-record.invariant)
