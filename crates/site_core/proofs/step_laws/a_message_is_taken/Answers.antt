use Rattle.site_core.proofs.Takings.{messages_are_taken}
use Rattle.site_core.proofs.step_laws.a_message_is_taken.Goals as goal

pub returns : goal.returns
returns c = messages_are_taken
