use Rattle.outcome_forms.proofs.Lines.{text_of_beginning, texts_after}
use Rattle.outcome_forms.proofs.account_texts.write_account_text.Goals as goal

pub loop-place-preserved : goal.loop-place-preserved
loop-place-preserved g c = texts_after _ _ _ c.loop-place.invariant (_, c.in_ok-print-2.ensures.ok)

pub returns-in_err-print-2-clause-text : goal.returns-in_err-print-2-clause-text
returns-in_err-print-2-clause-text g c = texts_after _ _ _ c.loop-place.invariant (text_of_beginning _ _ _ c.in_err-print-2.ensures.err)

pub returns-in_err-print-3-clause-text : goal.returns-in_err-print-3-clause-text
returns-in_err-print-3-clause-text g c = texts_after _ _ _ c.loop-place.invariant (text_of_beginning _ _ _ c.in_err-print-3.ensures.err)

pub returns-clause-text : goal.returns-clause-text
returns-clause-text g c = texts_after _ _ _ c.loop-place.invariant (_, c.in_ok-print-3.ensures.ok)
