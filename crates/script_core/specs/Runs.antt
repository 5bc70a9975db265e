use Rattle.std.specs.Prelude.{◌≡◌, ℕ, List, [], ◌∷◌, ◌++◌, ◌<◌, ◌⊎◌, length, map, All, count_by, Option, Some}
use Rattle.std.specs.Str.Lines.{lines, strip_carriage_return}
use Rattle.std.specs.Io.KnownBytes.{Appends}
use Rattle.recall_text.specs.Answer.{Said, text_of}
use Rattle.recall_text.specs.Lines.{IsWithinLine}
use Rattle.recall_text.specs.State.{State}
use Rattle.recall_text.specs.Writing.{AppendsBeginning}
use Rattle.recall_text.specs.declared.faults.ScriptFault.{ScriptFault}
use Rattle.recall_text.specs.declared.faults.ScriptFault.TheVariants as faults
use Rattle.script_core.specs.Lines.{IsLine, IsTooLong, LinesFit, room, with_newlines}
use Rattle.script_core.specs.Memory.{TakesMemory}
use Rattle.script_core.specs.Script.{Takes}
use Rattle.script_core.specs.State.{empty}
use Rattle.script_core.specs.declared.tallies.Tally.{Tally}

-- in state s these lines are answered so, one after another, and t is the state that they leave
abbrev pub Runs : State → List (List ℕ) → List Said → State → Type 0
Runs s [] answers t = (answers ≡ []) × (t ≡ s)
Runs s (line ∷ rest) answers t =
    (a : Said) × (more : List Said) × (next : State) × (answers ≡ a ∷ more) × Takes s line a next × Runs next rest more t

-- how many of the answers are refusals
abbrev pub refusals : List Said → ℕ
refusals answers = count_by (λ a. a.refused) answers

-- the script was answered to its end
pub record IsDone (input : List ℕ) (old new : Option (List ℕ)) (tally : Tally) : Type 0 where
  pub answers : List Said
  pub state : State
  pub answered : Runs empty (lines input) answers state
  pub written : Appends old new (text_of answers)
  pub lines : tally.lines ≡ length (lines input)
  pub refused : tally.refused ≡ refusals answers
  pub fits : LinesFit input

-- ---- what a fault leaves

-- the script is whole lines that were answered so, and the rest
pub record Answered (input rest : List ℕ) (answers : List Said) : Type 0 where
  pub whole : List (List ℕ)
  pub state : State
  pub is : input ≡ with_newlines whole ++ rest
  pub each : All IsLine whole
  pub answered : Runs empty (map strip_carriage_return whole) answers state

-- the reader left this of the script, and all whole lines before it were answered so
pub record IsLeft (input : List ℕ) (left : Option (List ℕ)) (answers : List Said) : Type 0 where
  pub begun : List ℕ
  pub rest : List ℕ
  pub has : left ≡ Some rest
  pub is_begun : IsLine begun
  pub before : Answered input (begun ++ rest) answers

-- a line of the script is too long, and all lines before it were answered so
pub record IsBeforeLongLine (input : List ℕ) (answers : List Said) : Type 0 where
  pub line : List ℕ
  pub rest : List ℕ
  pub too_long : IsTooLong line
  pub before : Answered input (line ++ rest) answers

-- the line ends here: with what is left, or at its LF. What was read of it is its content, without a CR before that LF.
abbrev pub IsContent : List ℕ → List ℕ → List ℕ → Type 0
IsContent line rest content = ((rest ≡ []) × (content ≡ line)) ⊎ ((more : List ℕ) × (rest ≡ 10 ∷ more) × (content ≡ strip_carriage_return line))

-- the line has outgrown its room, or it is whole and allocates
abbrev pub WantsMemory : State → List ℕ → List ℕ → Type 0
WantsMemory state line rest = (room < length line) ⊎ ((content : List ℕ) × IsContent line rest content × TakesMemory state content)

-- memory ran out at a line that needs it, and all lines before it were answered so
pub record IsAtLine (input : List ℕ) (answers : List Said) : Type 0 where
  pub line : List ℕ
  pub rest : List ℕ
  pub within : IsWithinLine line
  pub before : Answered input (line ++ rest) answers
  pub wants : WantsMemory before.state line rest

-- memory ran out before anything was read, or at a line that needs it
abbrev pub IsShort : List ℕ → Option (List ℕ) → List Said → Type 0
IsShort input left answers = ((answers ≡ []) × (left ≡ Some input)) ⊎ IsAtLine input answers

-- lines at the front of the script were answered so, the last of them in part
pub record IsWithinAnswers (input : List ℕ) (answers : List Said) : Type 0 where
  pub taken : List (List ℕ)
  pub left : List (List ℕ)
  pub state : State
  pub front : lines input ≡ taken ++ left
  pub answered : Runs empty taken answers state

-- where in the script a fault ends its run, and which answers were given before
abbrev pub StopsAt : ScriptFault → List ℕ → Option (List ℕ) → List Said → Type 0
StopsAt faults.NoMemory input left answers = IsShort input left answers
StopsAt faults.Read input left answers = IsLeft input left answers
StopsAt faults.Write input left answers = IsWithinAnswers input answers
StopsAt faults.LineTooLong input left answers = IsBeforeLongLine input answers
StopsAt faults.TurnsSpent input left answers = IsLeft input left answers

-- the writer's fault leaves a beginning of the text, any other fault all of it
abbrev pub Writes : ScriptFault → Option (List ℕ) → Option (List ℕ) → List ℕ → Type 0
Writes faults.NoMemory old new text = Appends old new text
Writes faults.Read old new text = Appends old new text
Writes faults.Write old new text = AppendsBeginning old new text
Writes faults.LineTooLong old new text = Appends old new text
Writes faults.TurnsSpent old new text = Appends old new text

-- What a fault leaves of a run: the answers before it, written. `left` is what the reader still has, where that is known.
abbrev pub Leaves : ScriptFault → List ℕ → Option (List ℕ) → Option (List ℕ) → Option (List ℕ) → Type 0
Leaves fault input left before after = (answers : List Said) × StopsAt fault input left answers × Writes fault before after (text_of answers)
