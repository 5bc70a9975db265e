use Rattle.scholten_core.proofs.Clearing.{standing_is_cleared, no_row_is_stale}
use Rattle.scholten_core.proofs.laws.a_signal_clears_one_row.Goals as goal

pub returns : goal.returns
returns c = record { cleared = standing_is_cleared; stale = no_row_is_stale }
