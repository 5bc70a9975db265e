-- the lines of a text, one after another
use Rattle.std.proofs.Common.{◌≡◌, ℕ, ◌<◌, cond, List, [], ◌∷◌, ◌++◌, length, refl, ap, ◌∙◌, arith, ◌==◌}
use Rattle.std.specs.List.{slice_split}
use Rattle.std.specs.Str.Lines.{lines, lines_of_parts, strip_carriage_return}
use Rattle.std.proofs.lemmas.Bool.Decides.{nat_tests}
use Rattle.std.proofs.lemmas.List.Splits.{slice_split_at, slice_split_none, length-slice_split}
use Rattle.recall_text.specs.Lines.{is_newline, IsWithinLine}

parts_more : (p : List ℕ) (ps : List (List ℕ)) → 0 < length ps → lines_of_parts (p ∷ ps) ≡ strip_carriage_return p ∷ lines_of_parts ps
parts_more p [] some = absurd (omega arith)
parts_more p (q ∷ qs) some = refl

-- the first line of a text ends at its first LF
pub lines_at : (p rest : List ℕ) → IsWithinLine p → lines (p ++ 10 ∷ rest) ≡ strip_carriage_return p ∷ lines rest
lines_at p rest within =
    ap lines_of_parts (slice_split_at is_newline p 10 rest within refl)
    ∙ parts_more p (slice_split is_newline rest) (omega (arith, length-slice_split is_newline rest))

-- bytes without a LF are one line, and no bytes are none
pub lines_last : (p : List ℕ) → IsWithinLine p → lines p ≡ cond (length p == 0) [] (p ∷ [])
lines_last p within = ap lines_of_parts (slice_split_none is_newline p within)

pub no_bytes : (xs : List ℕ) → length xs ≡ 0 → xs ≡ []
no_bytes [] e = refl
no_bytes (x ∷ xs) e = absurd (omega arith)

pub one_line : (p : List ℕ) → 0 < length p → cond (length p == 0) [] (p ∷ []) ≡ p ∷ []
one_line p some = grind (arith, nat_tests)
