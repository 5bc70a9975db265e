use Rattle.site_rows.proofs.SameRecords.{same_record}
use Rattle.site_rows.proofs.laws.rows_tell_the_record.Goals as goal

pub returns : goal.returns
returns c = same_record
