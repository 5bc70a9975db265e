use Rattle.std.proofs.Common.{◌≡◌, ◌<◌, ◌^◌, get_or, length, true, false, sym, ◌∙◌, subst, lit<, arith}
use Rattle.std.proofs.lemmas.Str.Pattern.{starts_char}
use Rattle.std.specs.Prelude.{decimal}
use Rattle.frame_lines.specs.Finding.{Finds}
use Rattle.frame_lines.proofs.NumberLemmas.{no_plus, no_zero, parsed_is}
use Rattle.frame_lines.proofs.numbers.number_of.Goals as goal
use Rattle.frame_lines.proofs.numbers.number_of.Goals.{else-text-gt1-via-then-text-gt1+else-starts_with-2, else-text-gt1-via-else-text-gt1}

pub returns-then-starts_with : goal.returns-then-starts_with
returns-then-starts_with c = λ n (small, is).
    let plus = starts_char 43 c.args.text.now c.starts_with.result c.starts_with.ensures.cases (lit< tt) (lit< tt) in
    no_plus n small (subst (λ t. get_or t 0 0 ≡ 43) is (plus.0 c.if-starts_with.true))

pub returns-then-starts_with-2 : goal.returns-then-starts_with-2
returns-then-starts_with-2 c = λ n (small, is).
    let r = c.starts_with-then-text-gt1 in
    let zero = starts_char 48 c.args.text.now r.result r.ensures.cases (lit< tt) (lit< tt) in
    no_zero n small (subst (λ t. 1 < length t) is c.if-text-gt1.true) (subst (λ t. get_or t 0 0 ≡ 48) is (zero.0 c.if-starts_with-2.true))

pub returns : goal.returns
returns c =
    let text = c.args.text.now in
    let plus = starts_char 43 text c.starts_with.result c.starts_with.ensures.cases (lit< tt) (lit< tt) in
    let unsigned : get_or text 0 0 ≡ 43 → ⊥ = (λ e. let both : false ≡ true = sym c.if-starts_with.false ∙ plus.1 e in cc) in
    let canonical : 1 < length text → get_or text 0 0 ≡ 48 → ⊥ = (λ long e. elim c.else-text-gt1.branch [
      | else-text-gt1-via-then-text-gt1+else-starts_with-2 w ↦
          let zero = starts_char 48 text w.starts_with-then-text-gt1.result w.starts_with-then-text-gt1.ensures.cases (lit< tt) (lit< tt) in
          let both : false ≡ true = sym w.if-starts_with-2.false ∙ zero.1 e in
          cc
      | else-text-gt1-via-else-text-gt1 w ↦ omega (arith, long, w.if-text-gt1.false)
    ]) in
    subst (Finds (λ n. (n < 2 ^ 64) × (text ≡ decimal n))) (sym c.ok.ensures.value) (parsed_is text c.parse.result unsigned canonical c.parse.ensures.value.0)
