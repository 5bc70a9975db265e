use Rattle.std.proofs.Common.{◌≡◌, filter}
use Rattle.folder_questions.specs.Knowers.{ends_in}
use Rattle.folder_questions.proofs.knowers.those_ending.Given as goal

-- those so far that end in the text
abbrev pub invariant-loop-known : goal.invariant-loop-known
invariant-loop-known l = l.ending.items ≡ filter (ends_in l.text) l.yielded
