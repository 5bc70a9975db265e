-- scripts as whole lines and a rest
use Rattle.std.proofs.Common.{◌≡◌, ℕ, ◌≤◌, List, [], ◌∷◌, ◌++◌, length, map, refl, sym, ap, ◌∙◌, subst, append_assoc, append-nil, arith, All}
use Rattle.std.specs.List.{slice_split}
use Rattle.std.specs.Str.Lines.{lines, strip_carriage_return}
use Rattle.std.proofs.lemmas.Grind.{flat_map-append}
use Rattle.std.proofs.lemmas.List.Concat.{flat_map-cons}
use Rattle.std.proofs.lemmas.List.Elements.{All-head, All-tail, All-push, All-weaker}
use Rattle.std.proofs.lemmas.List.Splits.{slice_split_at, slice_split_none}
use Rattle.recall_text.specs.Lines.{is_newline}
use Rattle.recall_text.proofs.LineLemmas.{lines_at}
use Rattle.script_core.specs.Lines.{longest_line, IsLine, LinesFit, with_newlines}

-- a LF goes to the line before it
pub after_newline : (line rest : List ℕ) → (line ++ 10 ∷ []) ++ rest ≡ line ++ 10 ∷ rest
after_newline line rest = append_assoc line (10 ∷ []) rest

first_of : (line : List ℕ) (whole : List (List ℕ)) (rest : List ℕ) → with_newlines (line ∷ whole) ++ rest ≡ line ++ 10 ∷ (with_newlines whole ++ rest)
first_of line whole rest =
    ap (λ xs. xs ++ rest) (flat_map-cons (λ l. l ++ 10 ∷ []) line whole) ∙ append_assoc (line ++ 10 ∷ []) (with_newlines whole) rest ∙ after_newline line (with_newlines whole ++ rest)

-- whole lines are the first lines
pub lines_whole : (whole : List (List ℕ)) (rest : List ℕ) → All IsLine whole → lines (with_newlines whole ++ rest) ≡ map strip_carriage_return whole ++ lines rest
lines_whole [] rest each = refl
lines_whole (line ∷ whole) rest each =
    ap lines (first_of line whole rest) ∙ lines_at line (with_newlines whole ++ rest) (All-head IsLine line whole each).within
    ∙ ap (λ ls. strip_carriage_return line ∷ ls) (lines_whole whole rest (All-tail IsLine line whole each))

parts_whole : (whole : List (List ℕ)) (rest : List ℕ) → All IsLine whole → slice_split is_newline (with_newlines whole ++ rest) ≡ whole ++ slice_split is_newline rest
parts_whole [] rest each = refl
parts_whole (line ∷ whole) rest each =
    ap (slice_split is_newline) (first_of line whole rest) ∙ slice_split_at is_newline line 10 (with_newlines whole ++ rest) (All-head IsLine line whole each).within refl
    ∙ ap (λ ls. line ∷ ls) (parts_whole whole rest (All-tail IsLine line whole each))

-- where whole lines fit and what follows them is one more, all lines fit
pub lines_fit : (whole : List (List ℕ)) (last : List ℕ) → All IsLine whole → IsLine last → LinesFit (with_newlines whole ++ last)
lines_fit whole last each is_last =
    subst (All (λ line. length line ≤ longest_line)) (sym (parts_whole whole last each ∙ ap (λ ls. whole ++ ls) (slice_split_none is_newline last is_last.within)))
    (All-push (λ line. length line ≤ longest_line) whole last (All-weaker IsLine (λ line. length line ≤ longest_line) (λ line is_line. is_line.fits) whole each) is_last.fits)

-- one whole line more
pub with_one_more : (whole : List (List ℕ)) (line rest : List ℕ) → with_newlines whole ++ (line ++ 10 ∷ rest) ≡ with_newlines (whole ++ line ∷ []) ++ rest
with_one_more whole line rest =
    ap (λ xs. with_newlines whole ++ xs) (sym (after_newline line rest)) ∙ sym (append_assoc (with_newlines whole) (line ++ 10 ∷ []) rest)
    ∙ ap (λ xs. xs ++ rest) (sym (flat_map-append (λ l. l ++ 10 ∷ []) whole (line ∷ []) ∙ ap (λ xs. with_newlines whole ++ xs) (append-nil (line ++ 10 ∷ []))))

-- no bytes are a line that was begun
pub no_line : IsLine []
no_line = record { within = λ k d small. absurd (omega arith); fits = omega arith }
