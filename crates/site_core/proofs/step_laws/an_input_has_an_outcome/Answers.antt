use Rattle.site_core.proofs.EventOutcomes.{events_have_an_outcome}
use Rattle.site_core.proofs.InputOutcomes.{inputs_have_an_outcome}
use Rattle.site_core.proofs.step_laws.an_input_has_an_outcome.Goals as goal

pub returns : goal.returns
returns c = record { events = events_have_an_outcome; inputs = inputs_have_an_outcome }
