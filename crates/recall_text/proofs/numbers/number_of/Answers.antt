use Rattle.std.proofs.Common.{◌≡◌, true, false, sym, ◌∙◌, arith, lit<}
use Rattle.std.proofs.lemmas.Str.Pattern.{starts_char}
use Rattle.recall_text.proofs.NumberLemmas.{too_long, begins_with_plus, parsed}
use Rattle.recall_text.proofs.numbers.number_of.Goals as goal

pub returns-then-text-gt-MOST_DIGITS : goal.returns-then-text-gt-MOST_DIGITS
returns-then-text-gt-MOST_DIGITS c = sym (too_long c.args.text.now (omega arith))

pub returns-then-starts_with : goal.returns-then-starts_with
returns-then-starts_with c =
    let plus = starts_char 43 c.args.text.now c.starts_with.result c.starts_with.ensures.cases (lit< tt) (lit< tt) in
    sym (begins_with_plus c.args.text.now (plus.0 c.if-starts_with.true))

pub returns : goal.returns
returns c =
    let plus = starts_char 43 c.args.text.now c.starts_with.result c.starts_with.ensures.cases (lit< tt) (lit< tt) in
    c.ok.ensures.value ∙ parsed c.args.text.now c.parse.result c.if-text-gt-MOST_DIGITS.false
    (λ e. let both : false ≡ true = sym c.if-starts_with.false ∙ plus.1 e in cc) c.parse.ensures.value.0
