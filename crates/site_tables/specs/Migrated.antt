-- The rows of the first version's tables, as the second's.
use Rattle.std.specs.Prelude.{[], map}
use Rattle.site_rows.specs.RecordRows.{version_number}
use Rattle.site_rows.specs.declared.tables.Table.TheVariants.{Store, Pack, Packed}
use Rattle.site_rows.specs.declared.tables.Version.TheVariants.{Second}
use Rattle.site_tables.specs.Stored.{Change}
use Rattle.site_tables.specs.Values.{sets_version}

-- the row of the site has the second version's number, nothing was packed, and all else stays
abbrev pub migrated : Change
migrated Store rows = map (sets_version (version_number Second)) rows
migrated Pack rows = []
migrated Packed rows = []
migrated other rows = rows
