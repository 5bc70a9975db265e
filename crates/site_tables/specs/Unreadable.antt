-- Why the tables of a site can't be read.
use Rattle.std.specs.Prelude.{◌≡◌, ◌≢◌, ℕ, List, ◌∷◌, ◌++◌, map}
use Rattle.std.specs.List.{AllByRecursion}
use Rattle.sqlite.specs.State.{State, IsUnchanged}
use Rattle.sqlite.specs.Tree.{Trees}
use Rattle.site_rows.specs.declared.tables.Table.{«Table» as SiteTable}
use Rattle.site_tables.specs.declared.faults.ReadFault.{ReadFault}
use Rattle.site_tables.specs.declared.faults.ReadFault.TheVariants.{NoMemory, OtherTables, BadRow, Database}
use Rattle.site_tables.specs.Reads.{IsListed, HasBadRow, FailsToRead}
use Rattle.site_rows.specs.declared.tables.Version.{Version}
use Rattle.site_tables.specs.Tables.{Has, declared, schema_under, told_under}
use Rattle.site_tables.specs.Values.{RowOf, values_of}

-- values stand for all rows of the table
abbrev pub IsReadable : Trees → SiteTable → Type 0
IsReadable db t = (rows : List (RowOf t)) × IsListed (declared t) (db (declared t).tree) (map (values_of t) rows)

-- so they do for each of these tables
abbrev pub AreReadable : List SiteTable → Trees → Type 0
AreReadable tables db = AllByRecursion (IsReadable db) tables

-- the version has the table, and its tables in their order are some that can be read, then this one, and others
abbrev pub AreReadableBefore : Version → SiteTable → Trees → Type 0
AreReadableBefore v table db = Has v table × (read others : List SiteTable) × (told_under v ≡ read ++ table ∷ others) × AreReadable read db

-- the row at this place by key, from 1, is the first of this table for which no value stands
abbrev pub IsBadAt : SiteTable → ℕ → Trees → Type 0
IsBadAt table place db = HasBadRow (declared table) (values_of table) place (db (declared table).tree)

-- the tables aren't those of the version; or they are, and memory ran out, or the row is the first that is bad, table by
-- table, and nothing is changed, or the database failed
abbrev pub IsUnreadableUnder : Version → State → State → ReadFault → Type 0
IsUnreadableUnder v old new OtherTables = old.now.schema ≢ schema_under v
IsUnreadableUnder v old new NoMemory = old.now.schema ≡ schema_under v
IsUnreadableUnder v old new (BadRow table place) = (old.now.schema ≡ schema_under v) × AreReadableBefore v table old.now.trees × IsBadAt table place old.now.trees × IsUnchanged old new
IsUnreadableUnder v old new (Database e) = (old.now.schema ≡ schema_under v) × FailsToRead old new e

-- the tables are those of no version, or this is so of one
abbrev pub IsUnreadable : State → State → ReadFault → Type 0
IsUnreadable old new OtherTables = (v : Version) → old.now.schema ≢ schema_under v
IsUnreadable old new NoMemory = (v : Version) × IsUnreadableUnder v old new NoMemory
IsUnreadable old new (BadRow table place) = (v : Version) × IsUnreadableUnder v old new (BadRow table place)
IsUnreadable old new (Database e) = (v : Version) × IsUnreadableUnder v old new (Database e)
