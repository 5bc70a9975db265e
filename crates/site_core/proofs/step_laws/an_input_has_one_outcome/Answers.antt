use Rattle.site_core.proofs.OneEffect.{effects_are_fixed}
use Rattle.site_core.proofs.OneRefusal.{done_is_not_refused, refusals_are_fixed}
use Rattle.site_core.proofs.step_laws.an_input_has_one_outcome.Goals as goal

pub returns : goal.returns
returns c = record { effects = effects_are_fixed; not_both = done_is_not_refused; refusals = refusals_are_fixed }
