use Rattle.std.proofs.Common.{take}
use Rattle.std.specs.List.{AllZip}
use Rattle.folder_questions.specs.Coverage.{Covers}
use Rattle.folder_questions.proofs.coverage.all_covered.Given as goal

-- those of the sites so far
abbrev pub invariant-loop-record : goal.invariant-loop-record
invariant-loop-record l = AllZip (λ ref c. Covers ref.now c) (take l.record-index l.records) l.found.items
