-- Laws of a script's answers.
use Rattle.std.specs.Prelude.{◌≡◌, ℕ, List}
use Rattle.std.specs.Str.Lines.{lines}
use Rattle.recall_text.specs.Answer.{Said}
use Rattle.recall_text.specs.State.{State}
use Rattle.script_core.specs.Runs.{Runs}
use Rattle.script_core.specs.Script.{Takes}
use Rattle.script_core.specs.State.{empty}

-- in each state, each line has an answer, and leaves a state
abbrev pub LinesHaveAnAnswer : Type 0
LinesHaveAnAnswer = (s : State) (line : List ℕ) → (a : Said) × (t : State) × Takes s line a t

-- it has no other, and leaves no other state
abbrev pub LinesHaveOneAnswer : Type 0
LinesHaveOneAnswer = (s : State) (line : List ℕ) (a b : Said) (t u : State) → Takes s line a t → Takes s line b u → (a ≡ b) × (t ≡ u)

-- each script has answers to all its lines
abbrev pub ScriptsHaveAnswers : Type 0
ScriptsHaveAnswers = (script : List ℕ) → (xs : List Said) × (t : State) × Runs empty (lines script) xs t

-- it has no others: its answers are a function of its whole text
abbrev pub ScriptsHaveOneAnswer : Type 0
ScriptsHaveOneAnswer = (script : List ℕ) (xs ys : List Said) (t u : State) → Runs empty (lines script) xs t → Runs empty (lines script) ys u → (xs ≡ ys) × (t ≡ u)
