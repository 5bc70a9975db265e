use Rattle.site_store.proofs.ReadableRows.{rows_rise}
use Rattle.site_store.proofs.laws.rows_of_a_record_rise.Goals as goal

pub returns : goal.returns
returns c = rows_rise
