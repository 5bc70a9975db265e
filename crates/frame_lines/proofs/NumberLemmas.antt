-- Numbers as they are read.
use Rattle.std.proofs.Common.{◌≡◌, ◌<◌, ◌^◌, ℕ, cond, List, length, drop, get_or, Result, Ok, Err, sym, ap, ◌∙◌, subst, arith, inl, inr, decimal}
use Rattle.std.specs.Result.{result_ok}
use Rattle.std.specs.Str.Parse.{AllDigits, digits_value, IsNumeral, ParsesUnsigned, without_leading_plus}
use Rattle.std.proofs.lemmas.Bool.{cases_eq, cases_lt, ne_eqb}
use Rattle.std.proofs.lemmas.Fmt.{decimal_digit, decimal_nonempty, decimal-digits_value, digits_decimal, first_decimal, parse-decimal}
use Rattle.std.proofs.lemmas.Str.Parse.{IsNumeralModel, not_in_digits, numerals_by_value, tells_digits}
use Rattle.frame_lines.specs.Finding.{Finds}

own : IsNumeralModel (AllDigits 10) (digits_value 10)
own = numerals_by_value (AllDigits 10) tells_digits

-- no number is written with a plus
pub no_plus : (n : ℕ) → n < 2 ^ 64 → get_or (decimal n) 0 0 ≡ 43 → ⊥
no_plus n small e = not_in_digits own (decimal n) 43 (digits_decimal own n small) (λ r. omega (arith, r)) 0 (decimal_nonempty n small) e

-- and none with a zero before other digits
pub no_zero : (n : ℕ) → n < 2 ^ 64 → 1 < length (decimal n) → get_or (decimal n) 0 0 ≡ 48 → ⊥
no_zero n small long e = elim (cases_eq n 0) [
  | inl none ↦ omega (arith, long, ap length (ap decimal none ∙ decimal_digit 0 (omega arith)))
  | inr some ↦ omega (arith, e, first_decimal n (omega (arith, some)) small)
]

unsigned_is : (text : List ℕ) → (get_or text 0 0 ≡ 43 → ⊥) → without_leading_plus text ≡ text
unsigned_is text other = ap (λ v. drop (cond v 1 0) text) (ne_eqb (get_or text 0 0) 43 other)

-- what is parsed of a text with neither is the number that is written so
pub parsed_is : {E : Type 0} (text : List ℕ) (r : Result ℕ E) → (get_or text 0 0 ≡ 43 → ⊥) → (1 < length text → get_or text 0 0 ≡ 48 → ⊥) → ParsesUnsigned 64 10 text r
    → Finds (λ n. (n < 2 ^ 64) × (text ≡ decimal n)) (result_ok r)
parsed_is text (Ok n) plus zero (numeral, value) =
    let same = unsigned_is text plus in
    let is : IsNumeral 10 text = subst (IsNumeral 10) same numeral.0 in
    let small : digits_value 10 text < 2 ^ 64 = subst (λ t. digits_value 10 t < 2 ^ 64) same numeral.1 in
    let number : n ≡ digits_value 10 text = value ∙ ap (digits_value 10) same in
    let lead : get_or text 0 0 ≡ 48 → length text ≡ 1 = (λ e. elim (cases_lt 1 (length text)) [
      | inl long ↦ absurd (zero long e)
      | inr short ↦ omega (arith, short, is.0)
    ]) in
    (subst (λ m. m < 2 ^ 64) (sym number) small, sym (ap decimal number ∙ decimal-digits_value own text is.1 is.0 lead small))
parsed_is {E} text (Err e) plus zero parses = λ n (small, is).
    let read : Err e ≡ Ok n = parse-decimal 64 n text (Err e) small small is parses in
    cc
