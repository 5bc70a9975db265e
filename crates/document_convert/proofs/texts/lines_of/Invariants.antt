use Rattle.std.proofs.Common.{◌≡◌, ◌++◌, ◌==◌, length, map}
use Rattle.std.specs.List.{slice_split}
use Rattle.document_convert.proofs.texts.lines_of.Given as goal

-- the lines so far and those of the rest are all
abbrev pub invariant-loop-line : goal.invariant-loop-line
invariant-loop-line l = map (λ x. x.now) l.lines.items ++ slice_split (λ b. b == 10) l.rest ≡ slice_split (λ b. b == 10) l.text

abbrev pub decreases-loop-line : goal.decreases-loop-line
decreases-loop-line l = length l.rest
