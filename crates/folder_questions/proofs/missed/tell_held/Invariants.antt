use Rattle.std.proofs.Common.{take}
use Rattle.folder_questions.specs.Missed.{TellsAll}
use Rattle.folder_questions.proofs.missed.tell_held.Given as goal

-- those of the pairs so far
abbrev pub invariant-loop-missed : goal.invariant-loop-missed
invariant-loop-missed l = TellsAll (take l.missed-index l.pairs) l.fn.reached l.reached
