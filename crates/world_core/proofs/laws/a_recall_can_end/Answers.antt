use Rattle.world_core.proofs.CanEnd.{every_recall_can_end}
use Rattle.world_core.proofs.Going.{fresh_sites_are_going, runs_keep_going}
use Rattle.world_core.proofs.laws.a_recall_can_end.Goals as goal

pub returns : goal.returns
returns c = record { fresh = fresh_sites_are_going; run = runs_keep_going; ends = every_recall_can_end }
