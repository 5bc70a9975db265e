-- Numbers as they are read.
use Rattle.std.proofs.Common.{◌≡◌, ℕ, ◌<◌, ◌≤◌, ◌^◌, true, false, ◌&&◌, cond, List, [], ◌∷◌, length, drop, Some, None, Result, Ok, Err, refl, sym, ap, ◌∙◌, subst, arith, lit≤}
use Rattle.std.specs.Prelude.{nat_le, slice_index}
use Rattle.std.specs.List.{list_all}
use Rattle.std.specs.Result.{result_ok}
use Rattle.std.specs.Str.Parse.{AllDigits, digits_value, IsNumeral, ParsesUnsigned, without_leading_plus}
use Rattle.std.proofs.lemmas.Bool.{and_parts, and_from, leb-true, le-leb, lt-leb, ne_eqb}
use Rattle.std.proofs.lemmas.Int.Digits.{digits_value-lt}
use Rattle.std.proofs.lemmas.Str.Parse.{tells_digits}
use Rattle.std.proofs.Math.Nat.{pow-le-pow_right}
use Rattle.recall_text.specs.Numbers.{is_digit, is_number, number_of}

all_digits : (bs : List ℕ) → list_all is_digit bs ≡ true → AllDigits 10 bs
all_digits [] e = tells_digits.empty
all_digits (b ∷ bs) e =
    let parts = and_parts (is_digit b) (list_all is_digit bs) e in
    let range = and_parts (nat_le 48 b) (nat_le b 57) parts.0 in
    tells_digits.more b bs (leb-true 48 b range.0, leb-true b 57 range.1) (all_digits bs parts.1)

digits_all : (bs : List ℕ) → AllDigits 10 bs → list_all is_digit bs ≡ true
digits_all [] all = refl
digits_all (b ∷ bs) all =
    let parts = tells_digits.parts b bs all in
    and_from (is_digit b) (list_all is_digit bs) (and_from (nat_le 48 b) (nat_le b 57) (le-leb 48 b parts.0.0) (le-leb b 57 parts.0.1)) (digits_all bs parts.1)

pub too_long : (text : List ℕ) → 18 < length text → number_of text ≡ None
unfolding number_of
too_long text long = elim (nat_le 1 (length text)) as (λ v. cond (v && nat_le (length text) 18 && list_all is_digit text) (Some (digits_value 10 text)) None ≡ None) [
  | true ↦ ap (λ v. cond (v && list_all is_digit text) (Some (digits_value 10 text)) None) (lt-leb (length text) 18 long)
  | false ↦ refl
]

no_digits : (text : List ℕ) → list_all is_digit text ≡ false → number_of text ≡ None
unfolding number_of
no_digits text none = elim (nat_le 1 (length text) && nat_le (length text) 18) as (λ v. cond (v && list_all is_digit text) (Some (digits_value 10 text)) None ≡ None) [
  | true ↦ ap (λ v. cond v (Some (digits_value 10 text)) None) none
  | false ↦ refl
]

plus_is_none : (text : List ℕ) → slice_index text 0 ≡ 43 → list_all is_digit text ≡ false
plus_is_none [] e = cc
plus_is_none (b ∷ bs) e = ap (λ c. is_digit c && list_all is_digit bs) e

pub begins_with_plus : (text : List ℕ) → slice_index text 0 ≡ 43 → number_of text ≡ None
begins_with_plus text e = no_digits text (plus_is_none text e)

small : (text : List ℕ) → length text ≤ 18 → AllDigits 10 text → digits_value 10 text < 2 ^ 64
small text few all =
    let bound = digits_value-lt 10 text all in
    let most : 10 ^ length text ≤ 10 ^ 18 = pow-le-pow_right (lit≤ tt) few in
    let fits : 10 ^ 18 ≤ 2 ^ 64 = lit≤ tt in
    omega (arith, bound, most, fits)

number_is : (text : List ℕ) → length text ≤ 18 → IsNumeral 10 text → number_of text ≡ Some (digits_value 10 text)
unfolding number_of
number_is text few (some, all) =
    ap (λ v. cond v (Some (digits_value 10 text)) None)
    (and_from (nat_le 1 (length text) && nat_le (length text) 18) (list_all is_digit text)
    (and_from (nat_le 1 (length text)) (nat_le (length text) 18) (le-leb 1 (length text) (omega (arith, some))) (le-leb (length text) 18 few)) (digits_all text all))

is_numeral : (text : List ℕ) → is_number text ≡ true → IsNumeral 10 text
is_numeral text e =
    let parts = and_parts (nat_le 1 (length text) && nat_le (length text) 18) (list_all is_digit text) e in
    let bounds = and_parts (nat_le 1 (length text)) (nat_le (length text) 18) parts.0 in
    let some = leb-true 1 (length text) bounds.0 in
    (omega (arith, some), all_digits text parts.1)

number_isnt : (text : List ℕ) → (IsNumeral 10 text → ⊥) → number_of text ≡ None
unfolding number_of
number_isnt text never = elim (is_number text) as (λ v. is_number text ≡ v → cond v (Some (digits_value 10 text)) None ≡ None) [
  | true ↦ λ e. absurd (never (is_numeral text e))
  | false ↦ λ e. refl
] refl

unsigned_is : (text : List ℕ) → (slice_index text 0 ≡ 43 → ⊥) → without_leading_plus text ≡ text
unsigned_is text other = ap (λ v. drop (cond v 1 0) text) (ne_eqb (slice_index text 0) 43 other)

pub parsed : {E : Type 0} (text : List ℕ) (r : Result ℕ E) → length text ≤ 18 → (slice_index text 0 ≡ 43 → ⊥) → ParsesUnsigned 64 10 text r → result_ok r ≡ number_of text
parsed text (Ok n) few other (numeral, value) =
    let same = unsigned_is text other in
    ap Some (value ∙ ap (digits_value 10) same) ∙ sym (number_is text few (subst (IsNumeral 10) same numeral.0))
parsed text (Err e) few other never =
    let same = unsigned_is text other in
    sym (number_isnt text (λ numeral. never (subst (λ t. IsNumeral 10 t × (digits_value 10 t < 2 ^ 64)) (sym same) (numeral, small text few numeral.1))))
