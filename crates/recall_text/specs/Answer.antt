use Rattle.std.specs.Prelude.{ℕ, Bool, false, true, List, [], ◌∷◌, ◌++◌, codes, string_bytes}
use Rattle.std.specs.List.{flat_map}
use Rattle.recall_text.specs.declared.answers.Answer.{Answer}
use Rattle.recall_text.specs.declared.answers.Answer.TheVariants as answers

-- the answer to a line: its text, and whether it is a refusal
pub record Said : Type 0 where
  pub text : List ℕ
  pub refused : Bool

abbrev pub answer_of : Answer → Said
answer_of answers.Silent = record { text = []; refused = false }
answer_of (answers.Fixed text) = record { text = text.now; refused = true }
answer_of (answers.Refusal text) = record { text = string_bytes text; refused = true }
answer_of (answers.Done text) = record { text = string_bytes text; refused = false }

-- nothing is answered
abbrev pub silent : Said
silent = record { text = []; refused = false }

abbrev pub refused : List ℕ → Said
refused what = record { text = codes "refused " ++ what ++ 10 ∷ []; refused = true }

abbrev pub done : List ℕ → Said
done text = record { text = text; refused = false }

-- the text of answers
abbrev pub text_of : List Said → List ℕ
text_of answers = flat_map (λ a. a.text) answers
