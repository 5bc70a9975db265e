use Rattle.site_rows.proofs.GoodRows.{rows_are_good}
use Rattle.site_rows.proofs.laws.rows_of_a_record_are_good.Goals as goal

pub returns : goal.returns
returns c = rows_are_good
