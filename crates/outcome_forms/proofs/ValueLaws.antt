-- Lines of JSON and the values that they are the text of.
use Rattle.std.proofs.Common.{◌≡◌, ◌<◌, ◌≤◌, inl, inr, ℕ, zero, suc, max, Bool, true, false, List, [], ◌∷◌, ◌++◌, All, Option, Some, None, map, refl, sym, ap, ap₂, ◌∙◌, subst, arith, append-nil, append_assoc}
use Rattle.std.specs.Prelude.{◌&&◌, nat_le, unwrap_or}
use Rattle.std.proofs.lemmas.Bool.{and_from, and_parts, cases_lt, le-leb}
use Rattle.std.proofs.lemmas.List.{append_cancel_right}
use Rattle.json.proofs.Printed.Strings.{escape_byte_plain}
use Rattle.std.specs.List.{list_all, slice_split}
use Rattle.std.proofs.lemmas.List.Elements.{All-head, All-tail}
use Rattle.std.proofs.lemmas.List.Splits.{slice_split_at}
use Rattle.json.specs.Json as json
use Rattle.json.specs.Lex.{tokens}
use Rattle.json.specs.Print.{escape, escape_byte, quoted}
use Rattle.json.specs.Token.{Token}
use Rattle.json.specs.Tree as tree
use Rattle.json.proofs.Printed.Decimals.{IsNumber-decimal}
use Rattle.json.proofs.Printed.Tokens.{tokens-print}
use Rattle.json.proofs.Printed.Trees.{ArePrintable-json_tokens, value-json_tokens}
use Rattle.recall_text.specs.Lines.{is_newline}
use Rattle.serde_json.specs.Data.{Data, Num, unsigned, negative, float, null, boolean, number, string, array, object, Items, no_items, item, Members, no_members, member}
use Rattle.serde_json.specs.Read.{number_of}
use Rattle.serde_json.specs.Written.{comma_if, compact_text, items_text, members_text, number_text, outline, items_outline, members_outline}
use Rattle.serde_json.proofs.Numbers.{number_of-decimal}
use Rattle.serde_json.proofs.Texts.{print-outline}
use Rattle.outcome_forms.specs.Json.{json_lines}
use Rattle.outcome_forms.specs.Telling.{HasPlainNumber, HasPlainNumbers, ItemsHavePlainNumbers, MembersHavePlainNumbers, LinesTellValues}
use Rattle.outcome_forms.proofs.WordLemmas.{Within, both, fixed, decimal_within}

-- ---- a value from its outline

abbrev mutual
  value_of : json.Json → Data
  value_of json.null = null
  value_of (json.boolean b) = boolean b
  value_of (json.number s) = number (unwrap_or (number_of s) (unsigned 0))
  value_of (json.string s) = string s
  value_of (json.array js) = array (items_from js)
  value_of (json.object ms) = object (members_from ms)

  items_from : json.Items → Items
  items_from json.no_items = no_items
  items_from (json.item j js) = item (value_of j) (items_from js)

  members_from : json.Members → Members
  members_from json.no_members = no_members
  members_from (json.member k j ms) = member k (value_of j) (members_from ms)

number_again : (n : Num) → HasPlainNumber n → unwrap_or (number_of (number_text n)) (unsigned 0) ≡ n
number_again (unsigned n) small = ap (λ (o : Option Num). unwrap_or o (unsigned 0)) (number_of-decimal n small)
number_again (negative z) never = absurd never
number_again (float x) never = absurd never

mutual
  value_again : (d : Data) → HasPlainNumbers d → value_of (outline d) ≡ d
  value_again null h = refl
  value_again (boolean b) h = refl
  value_again (number n) h = ap number (number_again n h)
  value_again (string s) h = refl
  value_again (array ds) h = ap array (items_again ds h)
  value_again (object ms) h = ap object (members_again ms h)

  items_again : (ds : Items) → ItemsHavePlainNumbers ds → items_from (items_outline ds) ≡ ds
  items_again no_items h = refl
  items_again (item d ds) h = ap₂ item (value_again d h.0) (items_again ds h.1)

  members_again : (ms : Members) → MembersHavePlainNumbers ms → members_from (members_outline ms) ≡ ms
  members_again no_members h = refl
  members_again (member k d ms) h = ap₂ (member k) (value_again d h.0) (members_again ms h.1)

number_printed : (n : Num) → HasPlainNumber n → tree.HasNumbers (json.number (number_text n))
number_printed (unsigned n) small = IsNumber-decimal n small
number_printed (negative z) never = absurd never
number_printed (float x) never = absurd never

mutual
  numbers_printed : (d : Data) → HasPlainNumbers d → tree.HasNumbers (outline d)
  numbers_printed null h = tt
  numbers_printed (boolean b) h = tt
  numbers_printed (number n) h = number_printed n h
  numbers_printed (string s) h = tt
  numbers_printed (array ds) h = items_printed ds h
  numbers_printed (object ms) h = members_printed ms h

  items_printed : (ds : Items) → ItemsHavePlainNumbers ds → tree.ItemsHaveNumbers (items_outline ds)
  items_printed no_items h = tt
  items_printed (item d ds) h = (numbers_printed d h.0, items_printed ds h.1)

  members_printed : (ms : Members) → MembersHavePlainNumbers ms → tree.MembersHaveNumbers (members_outline ms)
  members_printed no_members h = tt
  members_printed (member k d ms) h = (numbers_printed d h.0, members_printed ms h.1)

-- ---- a value from its text

pub tokens_of : (d : Data) → HasPlainNumbers d → tokens (compact_text d) ≡ tree.json_tokens (outline d)
tokens_of d h =
    ap tokens (sym (print-outline d)) ∙ tokens-print (tree.json_tokens (outline d)) (ArePrintable-json_tokens (outline d) (numbers_printed d h))

pub outline_read : (j : json.Json) (room : ℕ) → tree.depth j ≤ room → json.value room (tree.json_tokens j) ≡ Some (j, [])
outline_read j room shallow = ap (json.value room) (sym (append-nil (tree.json_tokens j))) ∙ value-json_tokens j room [] shallow

abbrev value_read : Option (json.Json × List Token) → json.Json
value_read None = json.null
value_read (Some read) = read.0

same_value : (d e : Data) → HasPlainNumbers d → HasPlainNumbers e → compact_text d ≡ compact_text e → d ≡ e
same_value d e hd he same =
    let room = max (tree.depth (outline d)) (tree.depth (outline e)) in
    let alike : tree.json_tokens (outline d) ≡ tree.json_tokens (outline e) = sym (tokens_of d hd) ∙ ap tokens same ∙ tokens_of e he in
    let outlines : outline d ≡ outline e =
    ap value_read (sym (outline_read (outline d) room (omega arith)) ∙ ap (json.value room) alike ∙ outline_read (outline e) room (omega arith)) in
    sym (value_again d hd) ∙ ap value_of outlines ∙ value_again e he

-- ---- no text has a line's end

abbrev all_below : ℕ → (ℕ → Bool) → Bool
all_below zero test = true
all_below (suc n) test = test n && all_below n test

below_passes : (n : ℕ) (test : ℕ → Bool) → all_below n test ≡ true → (b : ℕ) → b < n → test b ≡ true
below_passes zero test h b low = absurd (omega arith)
below_passes (suc n) test h b low =
    let parts = and_parts (test n) (all_below n test) h in
    elim (cases_lt b n) [
      | inl below ↦ below_passes n test parts.1 b below
      | inr last ↦ let same : n ≡ b = omega arith in subst (λ k. test k ≡ true) same parts.0
    ]

byte_within : (x : ℕ) → Within (escape_byte x)
unfolding escape_byte
byte_within x = elim (cases_lt x 93) [
  | inl low ↦ fixed (escape_byte x) (below_passes 93 (λ k. list_all (nat_le 14) (escape_byte k)) refl x low)
  | inr high ↦ plain high
] where
  plain : 93 ≤ x → Within (escape_byte x)
  plain high =
      let same = escape_byte_plain x (λ e. let no : ⊥ = omega (arith, e, high) in no) (λ e. let no : ⊥ = omega (arith, e, high) in no) (omega (arith, high)) in
      subst Within (sym same) (fixed (x ∷ []) (and_from (nat_le 14 x) true (le-leb 14 x (omega (arith, high))) refl))

escape_within : (s : List ℕ) → Within (escape s)
escape_within [] = fixed [] refl
escape_within (x ∷ xs) = both (byte_within x) (escape_within xs)

quoted_within : (s : List ℕ) → Within (quoted s)
quoted_within s = both (fixed (34 ∷ []) refl) (both (escape_within s) (fixed (34 ∷ []) refl))

comma_within : (later : Bool) → Within (comma_if later)
comma_within true = fixed (comma_if true) refl
comma_within false = fixed (comma_if false) refl

number_within : (n : Num) → HasPlainNumber n → Within (number_text n)
number_within (unsigned n) small = decimal_within n small
number_within (negative z) never = absurd never
number_within (float x) never = absurd never

mutual
  text_within : (d : Data) → HasPlainNumbers d → Within (compact_text d)
  text_within null h = fixed (compact_text null) refl
  text_within (boolean true) h = fixed (compact_text (boolean true)) refl
  text_within (boolean false) h = fixed (compact_text (boolean false)) refl
  text_within (number n) h = number_within n h
  text_within (string s) h = quoted_within s
  text_within (array ds) h = both (fixed (91 ∷ []) refl) (items_within false ds h)
  text_within (object ms) h = both (fixed (123 ∷ []) refl) (members_within false ms h)

  items_within : (later : Bool) (ds : Items) → ItemsHavePlainNumbers ds → Within (items_text later ds)
  items_within later no_items h = fixed (93 ∷ []) refl
  items_within later (item d ds) h = both (comma_within later) (both (text_within d h.0) (items_within true ds h.1))

  members_within : (later : Bool) (ms : Members) → MembersHavePlainNumbers ms → Within (members_text later ms)
  members_within later no_members h = fixed (125 ∷ []) refl
  members_within later (member k d ms) h =
      both (comma_within later) (both (quoted_within k) (both (fixed (58 ∷ []) refl) (both (text_within d h.0) (members_within true ms h.1))))

-- ---- values from lines

lines_of : (ds : List Data) → All HasPlainNumbers ds → slice_split is_newline (json_lines ds) ≡ map compact_text ds ++ [] ∷ []
lines_of [] h = refl
lines_of (d ∷ ds) h =
    let rest = json_lines ds in
    let text = text_within d (All-head HasPlainNumbers d ds h) in
    ap (slice_split is_newline) (append_assoc (compact_text d) (10 ∷ []) rest)
    ∙ slice_split_at is_newline (compact_text d) 10 rest text.is refl
    ∙ ap (λ ls. compact_text d ∷ ls) (lines_of ds (All-tail HasPlainNumbers d ds h))

texts_tell : (ds es : List Data) → All HasPlainNumbers ds → All HasPlainNumbers es → map compact_text ds ≡ map compact_text es → ds ≡ es
texts_tell [] [] hd he same = refl
texts_tell [] (e ∷ es) hd he same = cc
texts_tell (d ∷ ds) [] hd he same = cc
texts_tell (d ∷ ds) (e ∷ es) hd he same =
    let first : compact_text d ≡ compact_text e = cc in
    let rest : map compact_text ds ≡ map compact_text es = cc in
    ap₂ (λ x xs. x ∷ xs) (same_value d e (All-head HasPlainNumbers d ds hd) (All-head HasPlainNumbers e es he) first)
    (texts_tell ds es (All-tail HasPlainNumbers d ds hd) (All-tail HasPlainNumbers e es he) rest)

pub lines_tell_values : LinesTellValues
lines_tell_values ds es hd he same =
    texts_tell ds es hd he
    (append_cancel_right (map compact_text ds) (map compact_text es) ([] ∷ []) (sym (lines_of ds hd) ∙ ap (slice_split is_newline) same ∙ lines_of es he))
