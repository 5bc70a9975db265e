use Rattle.std.specs.Prelude.{◌≡◌, ◌+◌, ◌⊎◌, ℕ, List, [], ◌++◌, All, length, map, Option, if◌then◌else◌}
use Rattle.std.specs.Str.Lines.{lines, strip_carriage_return}
use Rattle.std.specs.Io.KnownBytes.{Appends, Keeps}
use Rattle.recall_text.specs.Answer.{Said, text_of}
use Rattle.recall_text.specs.State.{State}
use Rattle.recall_text.specs.Writing.{AppendsBeginning}
use Rattle.recall_text.specs.declared.faults.ScriptFault.{ScriptFault}
use Rattle.recall_text.specs.declared.faults.ScriptFault.TheVariants.{NoMemory, Write}
use Rattle.script_core.specs.Kept.{state_of}
use Rattle.script_core.specs.Lines.{IsLine, LinesFit, with_newlines}
use Rattle.script_core.specs.Memory.{TakesMemory}
use Rattle.script_core.specs.Runs.{Runs, refusals, StopsAt, Writes}
use Rattle.script_core.specs.Script.{Takes}
use Rattle.script_core.specs.State.{empty}
use Rattle.script_core.specs.declared.sessions.Session.{Session}
use Rattle.script_core.specs.declared.tallies.Tally.{Tally}

-- nothing was read
pub record IsNew (session : Session) : Type 0 where
  pub script : state_of session.script ≡ empty
  pub lines : session.lines ≡ 0
  pub refused : session.refused ≡ 0
  pub pending : session.pending ≡ []

-- The input is whole lines, which were taken with these answers, the pending bytes, which begin the next line, and the rest.
pub record Follows (input : List ℕ) (session : Session) (rest : List ℕ) (answers : List Said) : Type 0 where
  pub whole : List (List ℕ)
  pub is : input ≡ with_newlines whole ++ (session.pending ++ rest)
  pub each : All IsLine whole
  pub pending : IsLine session.pending
  pub answered : Runs empty (map strip_carriage_return whole) answers (state_of session.script)
  pub lines : session.lines ≡ length whole
  pub refused : session.refused ≡ refusals answers

-- The session continues from the piece to the rest of it, and the answers are written.
abbrev pub GoesOn : Session → List ℕ → Session → List ℕ → Option (List ℕ) → Option (List ℕ) → Type 0
GoesOn old piece new rest before after =
    (input later : List ℕ) (answers : List Said) → Follows input old (piece ++ later) answers
    → (more : List Said) × Follows input new (rest ++ later) (answers ++ more) × Appends before after (text_of more)

-- What a fault leaves, where these answers were written before.
abbrev pub LeavesMore : List ℕ → Option (List ℕ) → List Said → ScriptFault → Option (List ℕ) → Option (List ℕ) → Type 0
LeavesMore input left answers fault before after =
    (more : List Said) × StopsAt fault input left (answers ++ more) × Writes fault before after (text_of more)

-- The session ends early, somewhere in the piece.
abbrev pub EndsEarly : Session → List ℕ → ScriptFault → Option (List ℕ) → Option (List ℕ) → Type 0
EndsEarly old piece fault before after =
    (input later : List ℕ) (left : Option (List ℕ)) (answers : List Said) → Follows input old (piece ++ later) answers
    → LeavesMore input left answers fault before after

-- One line was taken, its answer was written, and nothing is pending.
pub record AnswersOne (old : Session) (line : List ℕ) (new : Session) (before after : Option (List ℕ)) : Type 0 where
  pub answer : Said
  pub takes : Takes (state_of old.script) line answer (state_of new.script)
  pub pending : new.pending ≡ []
  pub lines : new.lines ≡ old.lines + 1
  pub refused : new.refused ≡ (if answer.refused then old.refused + 1 else old.refused)
  pub written : Appends before after answer.text

-- Nothing was written, or by a writer's fault a beginning of the line's answer.
abbrev pub FailsInOne : Session → List ℕ → ScriptFault → Option (List ℕ) → Option (List ℕ) → Type 0
FailsInOne old line fault before after =
    ((fault ≡ NoMemory) × TakesMemory (state_of old.script) line × Keeps before after)
    ⊎ ((fault ≡ Write) × (answer : Said) × (next : State) × Takes (state_of old.script) line answer next × AppendsBeginning before after answer.text)

-- The session is at the end of the input: its last line is answered, and the tally counts all lines.
abbrev pub Finishes : Session → Tally → Option (List ℕ) → Option (List ℕ) → Type 0
Finishes session tally before after =
    (input : List ℕ) (answers : List Said) → Follows input session [] answers
    → (more : List Said) × (state : State) × Runs empty (lines input) (answers ++ more) state × Appends before after (text_of more)
    × (tally.lines ≡ length (lines input)) × (tally.refused ≡ refusals (answers ++ more)) × LinesFit input

-- The session ends early in its last line, behind which the input has nothing.
abbrev pub EndsInLast : Session → ScriptFault → Option (List ℕ) → Option (List ℕ) → Type 0
EndsInLast session fault before after =
    (input : List ℕ) (left : Option (List ℕ)) (answers : List Said) → Follows input session [] answers → LeavesMore input left answers fault before after
