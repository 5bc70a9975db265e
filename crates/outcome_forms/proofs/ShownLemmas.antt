-- What is shown has no hidden character, and tells what it was shown for.
use Rattle.std.proofs.Common.{suc, zero, if◌then◌else◌, ◌==◌, append-nil, arith, ◌≡◌, ◌∷◌, [], List, ℕ, ◌<◌, true, false, Bool, refl, flat_map, encode_utf8}
use Rattle.std.specs.Str.{IsAscii, NoCharPasses, NonePass}
use Rattle.std.specs.Str.Parse.{AllDigits}
use Rattle.std.specs.Char.{digit_value}
use Rattle.std.specs.Fmt.{digits}
use Rattle.std.proofs.lemmas.Str.{NoCharPasses-append, NoCharPasses-nil, encodes-IsAscii}
use Rattle.std.proofs.lemmas.Fmt.{digits_is_IsNumeral}
use Rattle.outcome_forms.specs.Shown.{escaped, is_hidden, shown_char}

pub small : (c : ℕ) → is_hidden c ≡ true → c < 0x2100
small c h = grind arith

hex : (c : ℕ) → digit_value c < 16 → is_hidden c ≡ false
hex c h = grind arith

hex_ascii : (c : ℕ) → digit_value c < 16 → c < 128
hex_ascii c h = grind arith

shows_hex : (ds : List ℕ) → AllDigits 16 ds → NonePass is_hidden ds
shows_hex [] a = tt
shows_hex (d ∷ ds) a = (hex d a.0, shows_hex ds a.1)

ascii_hex : (ds : List ℕ) → AllDigits 16 ds → IsAscii ds
ascii_hex [] a i = omega arith
ascii_hex (d ∷ ds) a zero = hex_ascii d a.0
ascii_hex (d ∷ ds) a (suc i) = ascii_hex ds a.1 i

pub are_hex : (c : ℕ) → is_hidden c ≡ true → AllDigits 16 (digits 16 false c)
are_hex c h = (digits_is_IsNumeral 16 false (omega arith) (omega arith) c (omega (arith, small c h))).0.1

hexes : (ds : List ℕ) → AllDigits 16 ds → NoCharPasses is_hidden ds
hexes ds a = (ds, encodes-IsAscii ds (ascii_hex ds a), shows_hex ds a)

seen_escape : (c : ℕ) → is_hidden c ≡ true → NoCharPasses is_hidden (escaped c)
unfolding lib.Utf8.encode
seen_escape c h =
    NoCharPasses-append is_hidden (92 ∷ 117 ∷ 123 ∷ []) _ ((92 ∷ 117 ∷ 123 ∷ [], refl, (refl, (refl, (refl, tt)))))
    (NoCharPasses-append is_hidden (digits 16 false c) _ (hexes _ (are_hex c h)) ((125 ∷ [], refl, (refl, tt))))

pub seen_char : (c : ℕ) → NoCharPasses is_hidden (shown_char c)
unfolding shown_char lib.Utf8.encode
seen_char c = by (is_hidden c) (c == 92) refl
  where
    by : (hidden slash : Bool) → is_hidden c ≡ hidden → NoCharPasses is_hidden (if hidden then escaped c else (if slash then 92 ∷ 92 ∷ [] else encode_utf8 c))
    by true slash h = seen_escape c h
    by false true h = (92 ∷ 92 ∷ [], refl, (refl, (refl, tt)))
    by false false h = (c ∷ [], append-nil _, (h, tt))

pub seen_all : (cs : List ℕ) → NoCharPasses is_hidden (flat_map shown_char cs)
seen_all [] = NoCharPasses-nil is_hidden
seen_all (c ∷ cs) = NoCharPasses-append is_hidden _ _ (seen_char c) (seen_all cs)
