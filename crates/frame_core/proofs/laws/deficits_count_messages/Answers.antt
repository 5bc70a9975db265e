use Rattle.frame_core.proofs.Deficits.{deficit_rises, other_deficit_stays, deficit_falls, other_deficit_left}
use Rattle.frame_core.proofs.laws.deficits_count_messages.Goals as goal

pub returns : goal.returns
returns c = record {
  raised = deficit_rises;
  not_raised = other_deficit_stays;
  lowered = deficit_falls;
  not_lowered = other_deficit_left;
}
