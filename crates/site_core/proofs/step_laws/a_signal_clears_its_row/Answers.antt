use Rattle.site_core.proofs.Clearings.{signals_clear}
use Rattle.site_core.proofs.step_laws.a_signal_clears_its_row.Goals as goal

pub returns : goal.returns
returns c = signals_clear
