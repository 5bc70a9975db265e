-- Two texts that are shown alike are one.
use Rattle.std.proofs.Common.{if◌then◌else◌, ◌==◌, append_assoc, length-append, arith, ◌≡◌, ◌++◌, ◌∷◌, [], List, ℕ, ◌<◌, length, drop, get_or, true, false, Bool, refl, sym, subst, ap, ◌∙◌, flat_map, encode_utf8, chars, IsUtf8, encode_utf8_all}
use Rattle.std.specs.Str.{NoCharPasses, NonePass}
use Rattle.std.specs.Str.Parse.{AllDigits, digits_value}
use Rattle.std.specs.Char.{digit_value}
use Rattle.std.specs.Fmt.{digits}
use Rattle.std.proofs.lemmas.Str.{chars_from_encodes, encode_same, encodes-chars, length-encode, len_utf8_bounds}
use Rattle.std.proofs.lemmas.Fmt.{digits_is_IsNumeral}
use Rattle.outcome_forms.specs.Shown.{escaped, is_altered, is_hidden, shown, shown_char}
use Rattle.outcome_forms.proofs.ShownLemmas.{are_hex, small}

ends : (d : ℕ) → 125 ≡ d → digit_value d < 16 → ⊥
ends d e h = grind (arith, sym e)

same_digits : (xs ys r s : List ℕ) → AllDigits 16 xs → AllDigits 16 ys → xs ++ 125 ∷ r ≡ ys ++ 125 ∷ s → (xs ≡ ys) × (r ≡ s)
same_digits [] [] r s a b e = (refl, ap (drop 1) e)
same_digits [] (y ∷ ys) r s a b e = absurd (ends y (ap (λ l. get_or l 0 0) e) b.0)
same_digits (x ∷ xs) [] r s a b e = absurd (ends x (sym (ap (λ l. get_or l 0 0) e)) a.0)
same_digits (x ∷ xs) (y ∷ ys) r s a b e =
    let rest = same_digits xs ys r s a.1 b.1 (ap (drop 1) e) in
    let first : x ≡ y = ap (λ l. get_or l 0 0) e in
    (rw (first, rest.0), rest.1)

value : (c : ℕ) → is_hidden c ≡ true → digits_value 16 (digits 16 false c) ≡ c
value c h = (digits_is_IsNumeral 16 false (omega arith) (omega arith) c (omega (arith, small c h))).1

same_escapes : (c d : ℕ) (r s : List ℕ) → is_hidden c ≡ true → is_hidden d ≡ true → escaped c ++ r ≡ escaped d ++ s → (c ≡ d) × (r ≡ s)
same_escapes c d r s h i e =
    let behind = sym (append_assoc (digits 16 false c) (125 ∷ []) r) ∙ ap (drop 3) e ∙ append_assoc (digits 16 false d) (125 ∷ []) s in
    let parts = same_digits (digits 16 false c) (digits 16 false d) r s (are_hex c h) (are_hex d i) behind in
    (sym (value c h) ∙ ap (digits_value 16) parts.0 ∙ value d i, parts.1)

piece : Bool → Bool → ℕ → List ℕ
piece hidden slash c = if hidden then escaped c else (if slash then 92 ∷ 92 ∷ [] else encode_utf8 c)

u_or_slash : (u slash : ℕ) → u ≡ 117 → slash ≡ 92 → u ≡ slash → ⊥
u_or_slash u slash a b e = omega arith

same_char : (c d : ℕ) (r s : List ℕ) → shown_char c ++ r ≡ shown_char d ++ s → (c ≡ d) × (r ≡ s)
unfolding shown_char lib.Utf8.encode piece
same_char c d r s = by (is_hidden c) (c == 92) (is_hidden d) (d == 92) refl refl refl refl
  where
    by : (h k i j : Bool) → is_hidden c ≡ h → (c == 92) ≡ k → is_hidden d ≡ i → (d == 92) ≡ j → piece h k c ++ r ≡ piece i j d ++ s → (c ≡ d) × (r ≡ s)
    by true k true j hc kc hd jd e = same_escapes c d r s hc hd e
    by true k false true hc kc hd jd e = absurd (u_or_slash 117 92 refl refl (ap (λ l. get_or l 1 0) e))
    by true k false false hc kc hd jd e = let is : 92 ≡ d = (encode_same 92 d _ s e).0 in absurd (grind arith)
    by false true true j hc kc hd jd e = absurd (u_or_slash 117 92 refl refl (sym (ap (λ l. get_or l 1 0) e)))
    by false true false true hc kc hd jd e = (grind arith, ap (drop 2) e)
    by false true false false hc kc hd jd e = let is : 92 ≡ d = (encode_same 92 d _ s e).0 in absurd (grind arith)
    by false false true j hc kc hd jd e = let is : c ≡ 92 = (encode_same c 92 r _ e).0 in absurd (grind arith)
    by false false false true hc kc hd jd e = let is : c ≡ 92 = (encode_same c 92 r _ e).0 in absurd (grind arith)
    by false false false false hc kc hd jd e = encode_same c d r s e

some_char : (c : ℕ) → 0 < length (shown_char c)
unfolding shown_char
some_char c = by (is_hidden c) (c == 92)
  where
    by : (h k : Bool) → 0 < length (if h then escaped c else (if k then 92 ∷ 92 ∷ [] else encode_utf8 c))
    by true k = omega arith
    by false true = omega arith
    by false false = omega (arith, length-encode c, (len_utf8_bounds c).0)

not_empty : (c : ℕ) (r : List ℕ) → [] ≡ shown_char c ++ r → ⊥
not_empty c r e = let l : 0 ≡ length (shown_char c ++ r) = ap length e in omega (arith, some_char c, length-append (shown_char c) r)

same_chars : (xs ys : List ℕ) → flat_map shown_char xs ≡ flat_map shown_char ys → xs ≡ ys
same_chars [] [] e = refl
same_chars [] (y ∷ ys) e = absurd (not_empty y _ e)
same_chars (x ∷ xs) [] e = absurd (not_empty x _ (sym e))
same_chars (x ∷ xs) (y ∷ ys) e =
    let parts = same_char x y _ _ e in
    rw (parts.0, same_chars xs ys parts.1)

pub told_apart : (x y : List ℕ) → IsUtf8 x → IsUtf8 y → shown x ≡ shown y → x ≡ y
told_apart x y u v e = sym (encodes-chars x u) ∙ rw (same_chars (chars x) (chars y) e) (encodes-chars y v)

-- a text without hidden characters and backslashes
plain : (c : ℕ) → is_altered c ≡ false → shown_char c ≡ encode_utf8 c
unfolding shown_char
plain c h = by (is_hidden c) (c == 92) refl refl
  where
    by : (i k : Bool) → is_hidden c ≡ i → (c == 92) ≡ k → (if i then escaped c else (if k then 92 ∷ 92 ∷ [] else encode_utf8 c)) ≡ encode_utf8 c
    by true k hc kc = absurd (grind arith)
    by false true hc kc = absurd (grind arith)
    by false false hc kc = refl

all_plain : (cs : List ℕ) → NonePass is_altered cs → flat_map shown_char cs ≡ encode_utf8_all cs
all_plain [] h = refl
all_plain (c ∷ cs) h = rw (plain c h.0, all_plain cs h.1)

pub stays : (text : List ℕ) → IsUtf8 text → NoCharPasses is_altered text → shown text ≡ text
stays text u (cs, spelled, none) =
    let are : cs ≡ chars text = chars_from_encodes cs text u spelled in
    all_plain (chars text) (subst (NonePass is_altered) are none) ∙ encodes-chars text u
