use Rattle.site_rows.proofs.SignalsKeep.{signals_keep}
use Rattle.site_rows.proofs.laws.signals_keep_items.Goals as goal

pub returns : goal.returns
returns c = signals_keep c.a_signal_clears_its_row.ensures c.steps_stay_sound.ensures
