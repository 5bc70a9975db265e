use Rattle.site_tables.proofs.PartTable.{selects}
use Rattle.site_tables.proofs.part_table.PartRowTableRow.select_text.Goals as goal

pub returns : goal.returns
returns c = selects
