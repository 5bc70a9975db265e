use Rattle.site_tables.proofs.PackTable.{selects}
use Rattle.site_tables.proofs.pack_table.PackRowTableRow.select_text.Goals as goal

pub returns : goal.returns
returns c = selects
