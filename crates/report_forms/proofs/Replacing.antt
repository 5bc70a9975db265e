-- texts with other bytes in place of some
use Rattle.std.proofs.Common.{◌≡◌, ◌≢◌, ◌==◌, ℕ, ◌<◌, suc, false, MatchOption, None, Option, Some, Result, Ok, Err, OnOk, if◌then◌else◌, is_ok, List, [], ◌∷◌, ◌++◌, length, get_or, refl, sym, ap, ◌∙◌, subst, inl, inr, eq-eqb, ne_eqb, arith}
use Rattle.std.proofs.lemmas.Bool.{cases_Bool, eqb-true}
use Rattle.csv.specs.Writing.{default_writer, escaped as doubled_in}
use Rattle.report_forms.specs.Dot.{escaped, replaced}

-- the byte isn't in the text
abbrev pub Lacks : ℕ → List ℕ → Type 0
Lacks byte text = (i : ℕ) → i < length text → get_or text i 0 ≢ byte

-- the first byte is the one, or another
pub replaced_same : (byte : ℕ) (with text : List ℕ) → replaced byte with (byte ∷ text) ≡ with ++ replaced byte with text
unfolding replaced
replaced_same byte with text = rw (eq-eqb byte byte refl) refl

pub replaced_other : (byte : ℕ) (with : List ℕ) (b : ℕ) (text : List ℕ) → (b == byte) ≡ false → replaced byte with (b ∷ text) ≡ b ∷ replaced byte with text
unfolding replaced
replaced_other byte with b text other = rw other refl

pub replaced_none : (byte : ℕ) (with text : List ℕ) → Lacks byte text → replaced byte with text ≡ text
unfolding replaced
replaced_none byte with [] lacks = refl
replaced_none byte with (b ∷ text) lacks =
    replaced_other byte with b text (ne_eqb b byte (lacks 0 (omega arith))) ∙ ap (λ (bs : List ℕ). b ∷ bs) (replaced_none byte with text (λ i l. lacks (suc i) (omega arith)))

pub replaced_first : (byte : ℕ) (with before behind : List ℕ) → Lacks byte before
    → replaced byte with (before ++ byte ∷ behind) ≡ before ++ (with ++ replaced byte with behind)
replaced_first byte with [] behind lacks = replaced_same byte with behind
replaced_first byte with (b ∷ before) behind lacks =
    replaced_other byte with b (before ++ byte ∷ behind) (ne_eqb b byte (lacks 0 (omega arith)))
    ∙ ap (λ (bs : List ℕ). b ∷ bs) (replaced_first byte with before behind (λ i l. lacks (suc i) (omega arith)))

-- ---- as `csv` doubles quotes

pub doubled_other : (b : ℕ) (text : List ℕ) → (b == 34) ≡ false → doubled_in default_writer (b ∷ text) ≡ b ∷ doubled_in default_writer text
unfolding doubled_in
doubled_other b text other = rw other refl

doubled_quote : (text : List ℕ) → doubled_in default_writer (34 ∷ text) ≡ 34 ∷ 34 ∷ doubled_in default_writer text
unfolding doubled_in
doubled_quote text = refl

pub doubled : (text : List ℕ) → replaced 34 (34 ∷ 34 ∷ []) text ≡ doubled_in default_writer text
unfolding replaced doubled_in
doubled [] = refl
doubled (b ∷ text) = elim (cases_Bool (b == 34)) [
  | inl quote ↦
      subst (λ (c : ℕ). replaced 34 (34 ∷ 34 ∷ []) (c ∷ text) ≡ doubled_in default_writer (c ∷ text)) (sym (eqb-true b 34 quote))
      (replaced_same 34 (34 ∷ 34 ∷ []) text ∙ ap (λ (bs : List ℕ). 34 ∷ 34 ∷ bs) (doubled text) ∙ sym (doubled_quote text))
  | inr other ↦
      replaced_other 34 (34 ∷ 34 ∷ []) b text other ∙ ap (λ (bs : List ℕ). b ∷ bs) (doubled text) ∙ sym (doubled_other b text other)
]

-- ---- as a picture's texts have backslashes

pub escaped_quote : (text : List ℕ) → escaped (34 ∷ text) ≡ 92 ∷ 34 ∷ escaped text
unfolding escaped
escaped_quote text = refl

pub escaped_slash : (text : List ℕ) → escaped (92 ∷ text) ≡ 92 ∷ 92 ∷ escaped text
unfolding escaped
escaped_slash text = refl

pub escaped_other : (b : ℕ) (text : List ℕ) → (b == 34) ≡ false → (b == 92) ≡ false → escaped (b ∷ text) ≡ b ∷ escaped text
unfolding escaped
escaped_other b text no_quote no_slash = rw (no_quote, no_slash) refl

-- first the backslashes, and then the quotes
two_slashes : (text : List ℕ) → replaced 34 (92 ∷ 34 ∷ []) (92 ∷ 92 ∷ text) ≡ 92 ∷ 92 ∷ replaced 34 (92 ∷ 34 ∷ []) text
unfolding replaced
two_slashes text = refl

pub escaped_twice : (text : List ℕ) → replaced 34 (92 ∷ 34 ∷ []) (replaced 92 (92 ∷ 92 ∷ []) text) ≡ escaped text
unfolding replaced escaped
escaped_twice [] = refl
escaped_twice (b ∷ text) = elim (cases_Bool (b == 34)) [
  | inl quote ↦
      subst (λ (c : ℕ). replaced 34 (92 ∷ 34 ∷ []) (replaced 92 (92 ∷ 92 ∷ []) (c ∷ text)) ≡ escaped (c ∷ text)) (sym (eqb-true b 34 quote))
      (ap (replaced 34 (92 ∷ 34 ∷ [])) (replaced_other 92 (92 ∷ 92 ∷ []) 34 text refl)
      ∙ replaced_same 34 (92 ∷ 34 ∷ []) (replaced 92 (92 ∷ 92 ∷ []) text)
      ∙ ap (λ (bs : List ℕ). 92 ∷ 34 ∷ bs) (escaped_twice text) ∙ sym (escaped_quote text))
  | inr no_quote ↦ elim (cases_Bool (b == 92)) [
    | inl slash ↦
        subst (λ (c : ℕ). replaced 34 (92 ∷ 34 ∷ []) (replaced 92 (92 ∷ 92 ∷ []) (c ∷ text)) ≡ escaped (c ∷ text)) (sym (eqb-true b 92 slash))
        (ap (replaced 34 (92 ∷ 34 ∷ [])) (replaced_same 92 (92 ∷ 92 ∷ []) text)
        ∙ two_slashes (replaced 92 (92 ∷ 92 ∷ []) text)
        ∙ ap (λ (bs : List ℕ). 92 ∷ 92 ∷ bs) (escaped_twice text) ∙ sym (escaped_slash text))
    | inr no_slash ↦
        ap (replaced 34 (92 ∷ 34 ∷ [])) (replaced_other 92 (92 ∷ 92 ∷ []) b text no_slash)
        ∙ replaced_other 34 (92 ∷ 34 ∷ []) b (replaced 92 (92 ∷ 92 ∷ []) text) no_quote
        ∙ ap (λ (bs : List ℕ). b ∷ bs) (escaped_twice text) ∙ sym (escaped_other b text no_quote no_slash)
  ]
]

-- ---- what calls returned

-- a text that was added to
pub appended : {V E : Type 0} (r : Result V E) (new old more : List ℕ) → new ≡ (if is_ok r then old ++ more else old) → OnOk r (new ≡ old ++ more)
appended (Ok v) new old more e = e
appended (Err e) new old more is = tt

-- an option that is none

pub without_some : {X : Type 0} {A : Type 0} (B : X → Type 0) (r : Option X) → MatchOption r A B → ((x : X) → r ≡ Some x → ⊥) → A
without_some B None a none = a
without_some B (Some x) a none = absurd (none x refl)
