use Rattle.std.proofs.Common.{take}
use Rattle.std.specs.Option.{option_map}
use Rattle.folder_questions.specs.Coverage.{IsEnd}
use Rattle.folder_questions.proofs.coverage.end_of.Given as goal

-- the end of the events so far
abbrev pub invariant-loop-place : goal.invariant-loop-place
invariant-loop-place l = IsEnd l.last (take l.place l.captured.events) (option_map (λ e. e.now) l.end)
