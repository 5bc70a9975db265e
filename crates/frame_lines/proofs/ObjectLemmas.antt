-- Objects of texts: what is written of one is read back, and how long it is.
use Rattle.std.proofs.Common.{◌≡◌, ◌≤◌, ◌+◌, ◌-◌, ◌*◌, ◌==◌, ℕ, Bool, true, false, cond, List, [], ◌∷◌, ◌++◌, Some, length, take, IsUtf8, refl, sym, ap, ◌∙◌, subst, arith, append_assoc, append-nil, length-append}
use Rattle.std.specs.Prelude.{⊤, ◌/◌, ◌%◌, nat_lt, option_and_then}
use Rattle.std.specs.Char.{digit_char}
use Rattle.std.proofs.lemmas.Str.{IsUtf8-append, IsUtf8-nil}
use Rattle.std.proofs.lemmas.List.{get_or-append-add, take-append-le, take_all}
use Rattle.json.specs.Json as json
use Rattle.json.specs.Lex.{tokens}
use Rattle.json.specs.Print.{escape, escape_byte, escape_letter, quoted}
use Rattle.json.specs.Tree as tree
use Rattle.json.proofs.Printed.Tokens.{tokens-print}
use Rattle.json.proofs.Printed.Trees.{ArePrintable-json_tokens, value-json_tokens}
use Rattle.json.proofs.Printed.Utf8.{IsUtf8-are_ascii, IsUtf8-quoted}
use Rattle.serde_json.specs.Data.{Data, Members, array, boolean, member, no_members, null, number, object, string}
use Rattle.serde_json.specs.Read.{max_depth, of_json, read}
use Rattle.serde_json.specs.Written.{comma_if, compact_text, members_outline, members_text, outline}
use Rattle.serde_json.proofs.Texts.{print-outline}
use Rattle.frame_lines.specs.Lines.{HasValue, content_of, ends_with}

abbrev IsText : Data → Type 0
IsText (string s) = IsUtf8 s
IsText null = ⊥
IsText (boolean b) = ⊥
IsText (number n) = ⊥
IsText (array ds) = ⊥
IsText (object ms) = ⊥

-- each member is a text
abbrev pub AreTexts : Members → Type 0
AreTexts no_members = ⊤
AreTexts (member name d ms) = IsUtf8 name × IsText d × AreTexts ms

-- ---- reading

texts_printed : (ms : Members) → AreTexts ms → tree.MembersHaveNumbers (members_outline ms)
texts_printed no_members are = tt
texts_printed (member name (string s) ms) are = (tt, texts_printed ms are.2)
texts_printed (member name null ms) are = absurd are.1
texts_printed (member name (boolean b) ms) are = absurd are.1
texts_printed (member name (number n) ms) are = absurd are.1
texts_printed (member name (array ds) ms) are = absurd are.1
texts_printed (member name (object os) ms) are = absurd are.1

texts_shallow : (ms : Members) → AreTexts ms → tree.members_depth (members_outline ms) ≤ 0
texts_shallow no_members are = omega arith
texts_shallow (member name (string s) ms) are = let rest = texts_shallow ms are.2 in omega (arith, rest)
texts_shallow (member name null ms) are = absurd are.1
texts_shallow (member name (boolean b) ms) are = absurd are.1
texts_shallow (member name (number n) ms) are = absurd are.1
texts_shallow (member name (array ds) ms) are = absurd are.1
texts_shallow (member name (object os) ms) are = absurd are.1

-- the text of an object of texts is read as it, where its members are in the order of their names
pub texts_read : (ms : Members) → AreTexts ms → of_json (outline (object ms)) ≡ Some (object ms) → read (compact_text (object ms)) ≡ Some (object ms)
texts_read ms are order =
    let j = outline (object ms) in
    let printed : tokens (compact_text (object ms)) ≡ tree.json_tokens j =
    ap tokens (sym (print-outline (object ms))) ∙ tokens-print (tree.json_tokens j) (ArePrintable-json_tokens j (texts_printed ms are)) in
    let shallow = texts_shallow ms are in
    let value : json.value max_depth (tree.json_tokens j) ≡ Some (j, []) =
    ap (json.value max_depth) (sym (append-nil (tree.json_tokens j))) ∙ value-json_tokens j max_depth [] (omega (arith, shallow)) in
    ap (λ ts. option_and_then of_json (option_and_then (λ p. json.if_last p.0 p.1) (json.value max_depth ts))) printed
    ∙ ap (λ v. option_and_then of_json (option_and_then (λ p. json.if_last p.0 p.1) v)) value
    ∙ order

-- ---- UTF-8

comma_utf8 : (later : Bool) → IsUtf8 (comma_if later)
comma_utf8 true = IsUtf8-are_ascii (44 ∷ []) refl
comma_utf8 false = IsUtf8-nil

member_utf8 : (later : Bool) (name s rest : List ℕ) → IsUtf8 name → IsUtf8 s → IsUtf8 rest → IsUtf8 (comma_if later ++ (quoted name ++ 58 ∷ (quoted s ++ rest)))
member_utf8 later name s rest un us ur =
    IsUtf8-append (comma_if later) _ (comma_utf8 later)
    (IsUtf8-append (quoted name) _ (IsUtf8-quoted name un)
    (IsUtf8-append (58 ∷ []) (quoted s ++ rest) (IsUtf8-are_ascii (58 ∷ []) refl) (IsUtf8-append (quoted s) rest (IsUtf8-quoted s us) ur)))

members_utf8 : (later : Bool) (ms : Members) → AreTexts ms → IsUtf8 (members_text later ms)
members_utf8 later no_members are = IsUtf8-are_ascii (125 ∷ []) refl
members_utf8 later (member name (string s) ms) are = member_utf8 later name s (members_text true ms) are.0 are.1 (members_utf8 true ms are.2)
members_utf8 later (member name null ms) are = absurd are.1
members_utf8 later (member name (boolean b) ms) are = absurd are.1
members_utf8 later (member name (number n) ms) are = absurd are.1
members_utf8 later (member name (array ds) ms) are = absurd are.1
members_utf8 later (member name (object os) ms) are = absurd are.1

pub texts_utf8 : (ms : Members) → AreTexts ms → IsUtf8 (compact_text (object ms))
texts_utf8 ms are = IsUtf8-append (123 ∷ []) (members_text false ms) (IsUtf8-are_ascii (123 ∷ []) refl) (members_utf8 false ms are)

-- ---- length

one_of : (short low : Bool) (letter tens ones x : ℕ) → length (cond short (92 ∷ letter ∷ []) (cond low (92 ∷ 117 ∷ 48 ∷ 48 ∷ tens ∷ ones ∷ []) (x ∷ []))) ≤ 6
one_of true low letter tens ones x = omega arith
one_of false true letter tens ones x = omega arith
one_of false false letter tens ones x = omega arith

byte_size : (x : ℕ) → length (escape_byte x) ≤ 6
unfolding escape_byte
byte_size x = one_of (nat_lt 0 (escape_letter x)) (nat_lt x 32) (escape_letter x) (digit_char (x / 16)) (digit_char (x % 16)) x

escape_size : (s : List ℕ) → length (escape s) ≤ 6 * length s
escape_size [] = omega arith
escape_size (x ∷ xs) = omega (arith, length-append (escape_byte x) (escape xs), byte_size x, escape_size xs)

quoted_size : (s : List ℕ) → length (quoted s) ≤ 6 * length s + 2
quoted_size s = omega (arith, length-append (escape s) (34 ∷ []), escape_size s)

abbrev text_room : Data → ℕ
text_room (string s) = 6 * length s + 2
text_room null = 0
text_room (boolean b) = 0
text_room (number n) = 0
text_room (array ds) = 0
text_room (object ms) = 0

-- no more bytes than these
abbrev pub room : Members → ℕ
room no_members = 1
room (member name d ms) = length (quoted name) + (text_room d + (2 + room ms))

comma_size : (later : Bool) → length (comma_if later) ≤ 1
comma_size true = omega arith
comma_size false = omega arith

member_size : (later : Bool) (name s rest : List ℕ) (most : ℕ) → length rest ≤ most
    → length (comma_if later ++ (quoted name ++ 58 ∷ (quoted s ++ rest))) ≤ length (quoted name) + ((6 * length s + 2) + (2 + most))
member_size later name s rest most few =
    omega (
      arith,
      length-append (comma_if later) (quoted name ++ 58 ∷ (quoted s ++ rest)),
      length-append (quoted name) (58 ∷ (quoted s ++ rest)),
      length-append (quoted s) rest,
      comma_size later,
      quoted_size s,
      few,
    )

members_size : (later : Bool) (ms : Members) → AreTexts ms → length (members_text later ms) ≤ room ms
members_size later no_members are = omega arith
members_size later (member name (string s) ms) are = member_size later name s (members_text true ms) (room ms) (members_size true ms are.2)
members_size later (member name null ms) are = absurd are.1
members_size later (member name (boolean b) ms) are = absurd are.1
members_size later (member name (number n) ms) are = absurd are.1
members_size later (member name (array ds) ms) are = absurd are.1
members_size later (member name (object os) ms) are = absurd are.1

pub texts_size : (ms : Members) → AreTexts ms → length (compact_text (object ms)) ≤ 1 + room ms
texts_size ms are = omega (arith, members_size false ms are)

-- ---- the end of a line

regroup : (c q d front : List ℕ) → c ++ (q ++ 58 ∷ (d ++ (front ++ 125 ∷ []))) ≡ (c ++ (q ++ 58 ∷ (d ++ front))) ++ 125 ∷ []
regroup c q d front = simp append_assoc

closes : (later : Bool) (ms : Members) → (front : List ℕ) × (members_text later ms ≡ front ++ 125 ∷ [])
closes later no_members = ([], refl)
closes later (member name d ms) =
    let rest = closes true ms in (
      comma_if later ++ (quoted name ++ 58 ∷ (compact_text d ++ rest.0)),
      ap (λ l. comma_if later ++ (quoted name ++ 58 ∷ (compact_text d ++ l))) rest.1 ∙ regroup (comma_if later) (quoted name) (compact_text d) rest.0,
    )

last_size : (xs : List ℕ) (c : ℕ) → length (xs ++ c ∷ []) ≡ length xs + 1
last_size xs c = omega (arith, length-append xs (c ∷ []))

last_is : (b c : ℕ) (xs : List ℕ) → ends_with b (xs ++ c ∷ []) ≡ (c == b)
last_is b c xs =
    let size = last_size xs c in
    let some : nat_lt 0 (length (xs ++ c ∷ [])) ≡ true = grind (arith, size) in
    let at : length (xs ++ c ∷ []) - 1 ≡ length xs + 0 = omega (arith, size) in
    rw (some, at, get_or-append-add xs (c ∷ []) 0 0) refl

front_is : (c : ℕ) (xs : List ℕ) → take (length (xs ++ c ∷ []) - 1) (xs ++ c ∷ []) ≡ xs
front_is c xs =
    let at : length (xs ++ c ∷ []) - 1 ≡ length xs = omega (arith, last_size xs c) in
    rw at (take-append-le (length xs) xs (c ∷ []) (omega arith) ∙ take_all (length xs) xs (omega arith))

-- a text that ends with a brace, bare and as a line
content_bare : (xs : List ℕ) → content_of (xs ++ 125 ∷ []) ≡ xs ++ 125 ∷ []
unfolding content_of
content_bare xs = rw (last_is 10 125 xs) refl

content_line : (xs : List ℕ) → content_of ((xs ++ 125 ∷ []) ++ 10 ∷ []) ≡ xs ++ 125 ∷ []
unfolding content_of
content_line xs = rw (last_is 10 10 (xs ++ 125 ∷ []), front_is 10 (xs ++ 125 ∷ []), last_is 13 125 xs) refl

-- the text of an object of texts is a line with it as its value, with LF and without
pub has_value : (ms : Members) → AreTexts ms → of_json (outline (object ms)) ≡ Some (object ms) → room ms ≤ 4094
    → HasValue (compact_text (object ms) ++ 10 ∷ []) (object ms) × HasValue (compact_text (object ms)) (object ms)
has_value ms are order few =
    let text = compact_text (object ms) in
    let end = closes false ms in
    let is : text ≡ (123 ∷ end.0) ++ 125 ∷ [] = ap (λ l. 123 ∷ l) end.1 in
    let line : content_of (text ++ 10 ∷ []) ≡ text = ap (λ l. content_of (l ++ 10 ∷ [])) is ∙ content_line (123 ∷ end.0) ∙ sym is in
    let bare : content_of text ≡ text = ap content_of is ∙ content_bare (123 ∷ end.0) ∙ sym is in
    let closed : ends_with 125 text ≡ true = ap (ends_with 125) is ∙ last_is 125 125 (123 ∷ end.0) in
    let size = texts_size ms are in
    let utf8 = texts_utf8 ms are in
    let again = texts_read ms are order in (
      record {
        short = omega (arith, size, few, length-append text (10 ∷ []));
        closed = ap (ends_with 125) line ∙ closed;
        utf8 = subst IsUtf8 (sym line) utf8;
        is = ap read line ∙ again;
      },
      record {
        short = omega (arith, size, few);
        closed = ap (ends_with 125) bare ∙ closed;
        utf8 = subst IsUtf8 (sym bare) utf8;
        is = ap read bare ∙ again;
      },
    )
