-- What a keeper's answers are reported as.
use Rattle.std.specs.Prelude.{Result, Ok, Err}
use Rattle.site_core.specs.declared.outcomes.Effects.{Effects}
use Rattle.keeper_core.specs.declared.faults.KeepFault.{KeepFault}
use Rattle.keeper_core.specs.declared.faults.KeepFault.TheVariants.{NoMemory as NoMemoryFault}
use Rattle.world_core.specs.declared.events.Answer.{Answer}
use Rattle.world_core.specs.declared.events.Answer.TheVariants.{Done, Fault, NotReopened, NoMemory}

abbrev pub answer_of : Result Effects KeepFault → Answer
answer_of (Ok effects) = Done effects
answer_of (Err NoMemoryFault) = NoMemory
answer_of (Err fault) = Fault fault

abbrev pub hindrance : KeepFault → Answer
hindrance NoMemoryFault = NoMemory
hindrance fault = NotReopened fault
