use Rattle.outcome_forms.specs.Writing.{AppendsText}
use Rattle.outcome_forms.proofs.account_texts.write_account_text.Given as goal

-- what was written so far
abbrev pub invariant-loop-place : goal.invariant-loop-place
invariant-loop-place g l = AppendsText (g.W.Write.contents l.fn.output) (g.W.Write.contents l.output)
