use Rattle.site_core.proofs.ChangesTold.{answers_tell_changes, idle_frames_change_nothing}
use Rattle.site_core.proofs.step_laws.an_answer_tells_a_change.Goals as goal

pub returns : goal.returns
returns c = record { changes = answers_tell_changes; idle = idle_frames_change_nothing }
