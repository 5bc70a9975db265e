-- how the bytes of a line are held until it is whole
use Rattle.std.specs.Prelude.{◌≡◌, ◌+◌, ◌<◌, ◌⊎◌, ℕ, List, length}
use Rattle.recall_text.specs.declared.faults.ScriptFault.{ScriptFault}
use Rattle.recall_text.specs.declared.faults.ScriptFault.TheVariants.{NoMemory, LineTooLong}
use Rattle.script_core.specs.Lines.{longest_line, room}

-- The bytes can't be put behind those that are held: the line has outgrown its room and memory ran out, or it would be too long.
abbrev pub FailsToGrow : List ℕ → List ℕ → ScriptFault → Type 0
FailsToGrow held bytes fault =
    ((fault ≡ NoMemory) × (room < length held + length bytes)) ⊎ ((fault ≡ LineTooLong) × (longest_line < length held + length bytes))
