-- Laws of the rows that a site keeps.
use Rattle.site_core.specs.Records.{Record}
use Rattle.site_rows.specs.RecordRows.{rows_under}
use Rattle.site_rows.specs.declared.tables.Version.{Version}
use Rattle.site_tables.specs.Stored.{contents_of}
use Rattle.site_store.specs.Openings.{RowsRise}

-- under each version the rows of any record rise by the keys of their tables
abbrev pub RowsOfARecordRise : Type 0
RowsOfARecordRise = (v : Version) (r : Record) → RowsRise (contents_of (rows_under v r))
