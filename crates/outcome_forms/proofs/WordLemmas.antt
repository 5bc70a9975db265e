-- words without a line's end
use Rattle.std.proofs.Common.{◌≡◌, ◌<◌, ◌^◌, ℕ, true, false, List, [], ◌∷◌, ◌++◌, arith}
use Rattle.std.specs.Fmt.{decimal}
use Rattle.std.specs.Prelude.{nat_le}
use Rattle.std.specs.List.{list_all}
use Rattle.std.specs.Str.Parse.{AllDigits}
use Rattle.std.proofs.lemmas.Bool.{and_parts, leb-true, ne_eqb}
use Rattle.std.proofs.lemmas.Fmt.{decimal_is_IsNumeral}
use Rattle.std.proofs.lemmas.List.Elements.{All-append, All-cons, All-nil}
use Rattle.std.proofs.lemmas.Str.Parse.{tells_digits}
use Rattle.recall_text.specs.Lines.{is_newline, IsWithinLine}

-- bytes above those of line ends
pub within : (s : List ℕ) → list_all (nat_le 14) s ≡ true → IsWithinLine s
within [] e = All-nil (λ b. is_newline b ≡ false)
within (b ∷ bs) e =
    let parts = and_parts (nat_le 14 b) (list_all (nat_le 14) bs) e in
    let above = leb-true 14 b parts.0 in
    All-cons (λ c. is_newline c ≡ false) b bs (ne_eqb b 10 (λ h. let no : ⊥ = omega (arith, above, h) in no)) (within bs parts.1)

pub record Within (s : List ℕ) : Type 0 where
  pub is : IsWithinLine s

pub fixed : (s : List ℕ) → list_all (nat_le 14) s ≡ true → Within s
fixed s e = record { is = within s e }

pub both : {a b : List ℕ} → Within a → Within b → Within (a ++ b)
both {a} {b} first second = record { is = All-append (λ c. is_newline c ≡ false) a b first.is second.is }

digits : (ds : List ℕ) → AllDigits 10 ds → IsWithinLine ds
digits [] all = All-nil (λ b. is_newline b ≡ false)
digits (b ∷ bs) all =
    let parts = tells_digits.parts b bs all in
    All-cons (λ c. is_newline c ≡ false) b bs (ne_eqb b 10 (λ h. let no : ⊥ = omega (arith, parts.0.0, h) in no)) (digits bs parts.1)

pub decimal_within : (n : ℕ) → n < 2 ^ 64 → Within (decimal n)
decimal_within n small = record { is = digits (decimal n) (decimal_is_IsNumeral n small).0.1 }
