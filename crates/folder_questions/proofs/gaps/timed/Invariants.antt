use Rattle.std.proofs.Common.{take}
use Rattle.std.specs.List.{AllZip}
use Rattle.trace_core.specs.Chains.{sites_at}
use Rattle.folder_questions.specs.Gaps.{IsTimed}
use Rattle.folder_questions.proofs.gaps.timed.Given as goal

-- the lines so far have their times
abbrev pub invariant-loop-place : goal.invariant-loop-place
invariant-loop-place l = AllZip (IsTimed (sites_at l.sites)) (take l.place l.lines) l.packed.items
