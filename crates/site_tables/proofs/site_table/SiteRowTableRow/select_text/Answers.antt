use Rattle.site_tables.proofs.SiteTable.{selects}
use Rattle.site_tables.proofs.site_table.SiteRowTableRow.select_text.Goals as goal

pub returns : goal.returns
returns c = selects
