use Rattle.std.proofs.Common.{◌≡◌, length, IsUtf8}
use Rattle.recall_text.specs.Steps.{past_spaces}
use Rattle.recall_text.proofs.fields.past_spaces.Given as goal

-- only spaces are gone
abbrev pub invariant-loop-behind : goal.invariant-loop-behind
invariant-loop-behind l = record { same : past_spaces l.rest ≡ past_spaces l.text; text : IsUtf8 l.rest }

abbrev pub decreases-loop-behind : goal.decreases-loop-behind
decreases-loop-behind l = length l.rest
