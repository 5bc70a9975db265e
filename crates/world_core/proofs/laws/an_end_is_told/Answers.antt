use Rattle.world_core.proofs.Ends.{answered_ends_stand, starts_tell_the_end, nothing_else_ends}
use Rattle.world_core.proofs.Pins.{ends_are_told}
use Rattle.world_core.proofs.laws.an_end_is_told.Goals as goal

pub returns : goal.returns
returns c = record { told = ends_are_told; answered = answered_ends_stand; started = starts_tell_the_end; others = nothing_else_ends }
