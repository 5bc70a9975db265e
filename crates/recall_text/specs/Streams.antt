use Rattle.std.specs.Prelude.{⊤, Result, Ok, Err}
use Rattle.std.specs.declared.io.ErrorKind.{ErrorKind}
use Rattle.std.specs.declared.io.ErrorKind.TheVariants as kinds
use Rattle.recall_text.specs.declared.faults.ScriptFault.{ScriptFault}

-- a call that was interrupted is no fault
abbrev pub fault_of_kind : ErrorKind → ScriptFault → Result ⊤ ScriptFault
fault_of_kind kinds.Interrupted fault = Ok tt
fault_of_kind _ fault = Err fault
