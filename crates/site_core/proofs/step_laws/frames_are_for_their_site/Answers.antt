use Rattle.site_core.proofs.Deliveries.{messages_are_for_the_site, signals_are_of_the_site}
use Rattle.site_core.proofs.step_laws.frames_are_for_their_site.Goals as goal

pub returns : goal.returns
returns c = record { messages = messages_are_for_the_site; signals = signals_are_of_the_site }
