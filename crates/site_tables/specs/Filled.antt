-- The rows of a record, put into tables that have none.
use Rattle.site_rows.specs.declared.rows.Rows.{Rows}
use Rattle.site_tables.specs.Stored.{Change, contents_of}
use Rattle.site_tables.specs.TableRows.{adds}

-- with the rows of each table besides those that it holds
abbrev pub with_rows : Rows → Change
with_rows rows t = adds (contents_of rows t)
