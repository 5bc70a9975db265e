-- The lines of a text, one after another, and the value of a text.
use Rattle.std.proofs.Common.{◌≡◌, ℕ, ◌+◌, ◌-◌, ◌<◌, Option, List, [], ◌∷◌, ◌++◌, Some, None, true, false, refl, sym, ap, ◌∙◌, arith, drop, length, take, length-append}
use Rattle.std.specs.Prelude.{◌==◌, ◌≢◌, All, IsUtf8, Bool, cond, if◌then◌else◌, get_or, option_map}
use Rattle.std.specs.List.{onto_first, slice_split}
use Rattle.std.specs.Str.{is_utf8}
use Rattle.std.proofs.lemmas.Bool.{eq-eqb}
use Rattle.std.proofs.lemmas.List.{length-drop, take-append-drop, take_all}
use Rattle.std.proofs.lemmas.Str.{IsUtf8-from_is_utf8, is_utf8-from_IsUtf8}
use Rattle.serde_json.specs.Data.{Data}
use Rattle.serde_json.specs.Read.{read}
use Rattle.epc_core.specs.Items.{parted, with_first}
use Rattle.epc_core.proofs.Cuts.{parted-append, parted_lacks, parted_some}
use Rattle.document_convert.specs.Texts.{value_of}

-- ---- values

pub a_value : (text : List ℕ) (d : Data) → IsUtf8 text → read text ≡ Some d → Some d ≡ value_of text
unfolding value_of
a_value text d utf8 reads = rw (is_utf8-from_IsUtf8 text utf8) (sym reads)

pub no_value : (text : List ℕ) → (IsUtf8 text → read text ≡ None) → None ≡ value_of text
unfolding value_of
no_value text none = by (is_utf8 text) refl
  where
    by : (b : Bool) → is_utf8 text ≡ b → None ≡ (if b then read text else None)
    by true is = sym (none (IsUtf8-from_is_utf8 text is))
    by false is = refl

-- ---- lines

differs : (xs : List ℕ) → All (λ b. (b == 10) ≡ false) xs → (i : ℕ) → i < length xs → get_or xs i 0 ≢ 10
differs xs all i lt same = let no : true ≡ false = sym (eq-eqb (get_or xs i 0) 10 same) ∙ all i 0 lt in cc

pub parted_none : (text : List ℕ) → All (λ b. (b == 10) ≡ false) text → None ≡ parted 10 text
parted_none text all = sym (parted_lacks 10 text (differs text all))

whole : (text : List ℕ) (end : ℕ) → drop end text ≡ 10 ∷ drop (end + 1) text → text ≡ take end text ++ 10 ∷ drop (end + 1) text
whole text end ends = sym (take-append-drop end text) ∙ ap (λ r. take end text ++ r) ends

pub parted_at : (text : List ℕ) (end : ℕ) → All (λ b. (b == 10) ≡ false) (take end text) → drop end text ≡ 10 ∷ drop (end + 1) text
    → Some (take end text, drop (end + 1) text) ≡ parted 10 text
parted_at text end within ends =
    sym (parted-append 10 (take end text) (drop (end + 1) text) (differs (take end text) within)) ∙ ap (parted 10) (sym (whole text end ends))

pub parted_cut : (text : List ℕ) (end : ℕ) → All (λ b. (b == 10) ≡ false) (take end text) → drop end text ≡ 10 ∷ drop (end + 1) text
    → Some (take end text, take (length text - (end + 1)) (drop (end + 1) text)) ≡ parted 10 text
parted_cut text end within ends =
    let short = length-drop (end + 1) text in
    ap (λ r. Some (take end text, r)) (take_all (length text - (end + 1)) (drop (end + 1) text) (omega (arith, short))) ∙ parted_at text end within ends

-- the lines of what is parted so
abbrev pub lines_by : List ℕ → Option (List ℕ × List ℕ) → List (List ℕ)
lines_by text None = text ∷ []
lines_by text (Some (front, rest)) = front ∷ slice_split (λ b. b == 10) rest

cut : (text : List ℕ) → slice_split (λ b. b == 10) text ≡ lines_by text (parted 10 text)
cut [] = refl
cut (b ∷ bs) = by (b == 10) (parted 10 bs) (cut bs)
  where
    by : (t : Bool) (o : Option (List ℕ × List ℕ)) → slice_split (λ x. x == 10) bs ≡ lines_by bs o
        → cond t ([] ∷ slice_split (λ x. x == 10) bs) (onto_first b (slice_split (λ x. x == 10) bs)) ≡ lines_by (b ∷ bs) (if t then Some ([], bs) else option_map (with_first b) o)
    by true o is = refl
    by false None is = ap (onto_first b) is
    by false (Some (front, rest)) is = ap (onto_first b) is

pub split_none : (text : List ℕ) → None ≡ parted 10 text → slice_split (λ b. b == 10) text ≡ text ∷ []
split_none text none = cut text ∙ ap (lines_by text) (sym none)

pub split_at : (text front rest : List ℕ) → Some (front, rest) ≡ parted 10 text → slice_split (λ b. b == 10) text ≡ front ∷ slice_split (λ b. b == 10) rest
split_at text front rest is = cut text ∙ ap (lines_by text) (sym is)

pub shorter : (text front rest : List ℕ) → Some (front, rest) ≡ parted 10 text → length rest < length text
shorter text front rest is =
    let parts = ap length (parted_some 10 text front rest (sym is)) ∙ length-append front (10 ∷ rest) in
    omega (arith, parts)
