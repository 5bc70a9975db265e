use Rattle.site_rows.proofs.TablesOfRecords.{rows_stand}
use Rattle.site_rows.proofs.laws.rows_stand_for_the_record.Goals as goal

pub returns : goal.returns
returns c = rows_stand
