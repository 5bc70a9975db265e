use Rattle.std.proofs.Common.{take}
use Rattle.site_recovery.specs.Checking.{world_at}
use Rattle.folder_questions.specs.Missed.{AreHolders}
use Rattle.folder_questions.proofs.missed.with_holders.Given as goal

-- those of the pairs so far
abbrev pub invariant-loop-pair : goal.invariant-loop-pair
invariant-loop-pair l = AreHolders (world_at l.records) (take l.pair-index l.pairs) l.found.items
