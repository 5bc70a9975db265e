use Rattle.world_core.proofs.Pins.{answered_steps_are_whole, broken_steps_are_either, others_are_absent}
use Rattle.world_core.proofs.laws.an_answered_step_is_whole.Goals as goal

pub returns : goal.returns
returns c = record { answered = answered_steps_are_whole; broken = broken_steps_are_either; others = others_are_absent }
