use Rattle.site_tables.proofs.ParentTable.{selects}
use Rattle.site_tables.proofs.parent_table.ParentRowTableRow.select_text.Goals as goal

pub returns : goal.returns
returns c = selects
