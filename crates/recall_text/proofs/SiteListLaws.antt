-- the laws of lists of sites
use Rattle.std.proofs.Common.{◌<◌, ◌≤◌, ◌+◌, ℕ, List, [], ◌∷◌, ◌++◌, All, length, sym, subst, ap₂, arith, Option, Some, None}
use Rattle.std.specs.Prelude.{AllPairs}
use Rattle.std.specs.Str.Lines.{lines}
use Rattle.std.proofs.lemmas.List.Elements.{All-cons, All-nil, All-weaker}
use Rattle.std.proofs.lemmas.List.Kept.{AllPairs-cons}
use Rattle.event_json.specs.Sites.{Site}
use Rattle.recall_text.specs.Laws.{RefusedLinesAreOfTheText, RefusesAsScripts, said_of}
use Rattle.recall_text.specs.SiteLists.{Lists, refused_at}
use Rattle.recall_text.specs.State.{gathering}
use Rattle.recall_text.specs.declared.site_lists.LineRefusal.{LineRefusal}
use Rattle.recall_text.specs.declared.site_lists.RefusedLine.{RefusedLine}

pub refuse_as_scripts : RefusesAsScripts
refuse_as_scripts sites name addresses None why after (is, left) = ap₂ (λ w s. (said_of w, gathering s)) (sym is) (sym left)
refuse_as_scripts sites name addresses (Some fault) why after (is, left) = ap₂ (λ w s. (said_of w, gathering s)) (sym is) (sym left)

-- ---- the numbers of lines

-- one of so many lines from this number on
abbrev pub IsAmong : ℕ → ℕ → RefusedLine → Type 0
IsAmong number count r = (number ≤ r.line) × (r.line < number + count)

abbrev pub IsBefore : RefusedLine → RefusedLine → Type 0
IsBefore a b = a.line < b.line

abbrev pub AreInTurn : ℕ → ℕ → List RefusedLine → Type 0
AreInTurn number count refused = All (IsAmong number count) refused × AllPairs IsBefore refused

line_more : (number : ℕ) (line : List ℕ) (rest : List (List ℕ)) (why : Option LineRefusal) (more : List RefusedLine)
    → AreInTurn (number + 1) (length rest) more → AreInTurn number (length (line ∷ rest)) (refused_at number why ++ more)
line_more number line rest None more (among, turn) = (
  All-weaker (IsAmong (number + 1) (length rest)) (IsAmong number (length (line ∷ rest))) (λ r (low, high). (omega (arith, low), omega (arith, high))) more among,
  turn,
)
line_more number line rest (Some why) more (among, turn) =
    let one : RefusedLine = record { line = number; why = why } in
    let others = All-weaker (IsAmong (number + 1) (length rest)) (IsAmong number (length (line ∷ rest))) (λ r (low, high). (omega (arith, low), omega (arith, high))) more among in
    let later = All-weaker (IsAmong (number + 1) (length rest)) (IsBefore one) (λ r (low, high). omega (arith, low)) more among in (
      All-cons (IsAmong number (length (line ∷ rest))) one more (omega arith, omega arith) others,
      AllPairs-cons IsBefore one more later turn,
    )

in_turn : (sites : List Site) (number : ℕ) (rest : List (List ℕ)) (refused : List RefusedLine) (after : List Site) → Lists sites number rest refused after → AreInTurn number (length rest) refused
in_turn sites number [] refused after (none, same) =
    subst (AreInTurn number 0) (sym none) (All-nil (IsAmong number 0), λ i j d before below. let no : ⊥ = omega (arith, below) in absurd no)
in_turn sites number (line ∷ rest) refused after (why, more, next, is, listed, others) =
    subst (AreInTurn number (length (line ∷ rest))) (sym is) (line_more number line rest why more (in_turn next (number + 1) rest more after others))

pub are_of_the_text : RefusedLinesAreOfTheText
are_of_the_text text list lists =
    let (among, turn) = in_turn [] 1 (lines text) list.refused.items list.sites lists in (
      All-weaker (IsAmong 1 (length (lines text))) (λ (r : RefusedLine). (0 < r.line) × (r.line ≤ length (lines text))) (λ r (low, high). (omega (arith, low), omega (arith, high))) list.refused.items among,
      turn,
    )
