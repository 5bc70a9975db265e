use Rattle.std.proofs.Common.{◌≡◌, map}
use Rattle.folder_questions.specs.Knowers.{has}
use Rattle.folder_questions.proofs.knowers.had_by.Given as goal

-- those so far
abbrev pub invariant-loop-known : goal.invariant-loop-known
invariant-loop-known l = l.found.items ≡ map (has l.site) l.yielded
