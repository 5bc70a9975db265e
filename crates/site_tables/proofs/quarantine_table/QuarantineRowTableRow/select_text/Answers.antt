use Rattle.site_tables.proofs.QuarantineTable.{selects}
use Rattle.site_tables.proofs.quarantine_table.QuarantineRowTableRow.select_text.Goals as goal

pub returns : goal.returns
returns c = selects
