use Rattle.std.proofs.Common.{◌∙◌}
use Rattle.outcome_forms.proofs.Lines.{account_line, text_of_beginning, texts_after, three_written}
use Rattle.outcome_forms.proofs.json_lines.write_account.Goals as goal

pub returns-in_err-write_parts-clause-text : goal.returns-in_err-write_parts-clause-text
returns-in_err-write_parts-clause-text g c = texts_after _ _ _ (_, c.in_ok-print.ensures.ok) c.in_err-write_parts.ensures.text

pub returns-in_err-print-2-clause-text : goal.returns-in_err-print-2-clause-text
returns-in_err-print-2-clause-text g c =
    texts_after _ _ _ (texts_after _ _ _ (_, c.in_ok-print.ensures.ok) c.in_ok-write_parts.ensures.text) (text_of_beginning _ _ _ c.in_err-print-2.ensures.err)

pub returns-clause-text : goal.returns-clause-text
returns-clause-text g c = texts_after _ _ _ (texts_after _ _ _ (_, c.in_ok-print.ensures.ok) c.in_ok-write_parts.ensures.text) (_, c.in_ok-print-2.ensures.ok)

pub returns-clause-ok : goal.returns-clause-ok
returns-clause-ok g c =
    let contents = g.W.Write.contents in
    three_written (contents c.args.output.now) (contents c.print.new.output) (contents c.write_parts.new.output) (contents c.print-2.new.output) _ _ _ _ _ _
    (c.as_str.ensures.value ∙ c.in_ok-head.ensures) (c.as_str-2.ensures.value ∙ c.in_ok-tail.ensures) (account_line c.args.sites.now c.args.ways c.args.account.now)
    c.in_ok-print.ensures.ok c.in_ok-write_parts.ensures.ok c.in_ok-print-2.ensures.ok
