-- Rows that a reading gives back as they are.
use Rattle.site_rows.specs.declared.tables.Table.{«Table» as SiteTable}
use Rattle.site_tables.specs.Reads.{IsStrict}
use Rattle.site_tables.specs.Stored.{Contents}
use Rattle.site_tables.specs.Tables.{declared}

-- the rows of each table rise by its key, so that no two have one key
abbrev pub MayBeRead : Contents → Type 0
MayBeRead rows = (t : SiteTable) → IsStrict (declared t) (rows t)
