use Rattle.std.proofs.Common.{take}
use Rattle.site_recovery.specs.Checking.{records_at}
use Rattle.folder_questions.specs.Knowers.{FindsInAll}
use Rattle.folder_questions.proofs.knowers.found_in_all.Given as goal

-- what is found at the sites so far
abbrev pub invariant-loop-state : goal.invariant-loop-state
invariant-loop-state l = FindsInAll l.asked l.item l.text (records_at (take l.state-index l.records)) l.found.items
