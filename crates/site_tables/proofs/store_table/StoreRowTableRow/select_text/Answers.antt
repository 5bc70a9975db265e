use Rattle.site_tables.proofs.StoreTable.{selects}
use Rattle.site_tables.proofs.store_table.StoreRowTableRow.select_text.Goals as goal

pub returns : goal.returns
returns c = selects
