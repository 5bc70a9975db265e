-- What prevents an opening, and what an opening finds.
use Rattle.std.specs.Prelude.{◌≡◌, ◌⊎◌, if◌then◌else◌, false}
use Rattle.sqlite.specs.State.{State, IsUnchanged}
use Rattle.sqlite.specs.declared.error.Error.{Error}
use Rattle.site_core.specs.Records.{Record}
use Rattle.keeper_core.specs.declared.faults.KeepFault.{KeepFault}
use Rattle.keeper_core.specs.declared.faults.KeepFault.TheVariants.{NoMemory, Device, Store}
use Rattle.site_rows.specs.RecordRows.{rows_under}
use Rattle.site_rows.specs.declared.tables.Table.{«Table» as SiteTable}
use Rattle.site_rows.specs.declared.tables.Version.{Version}
use Rattle.site_rows.specs.declared.tables.Version.TheVariants.{Second}
use Rattle.site_tables.specs.AllReads.{AreListed}
use Rattle.site_tables.specs.Causes.{HasReason}
use Rattle.site_tables.specs.Reads.{IsStrict}
use Rattle.site_tables.specs.Stored.{Contents, contents_of}
use Rattle.site_tables.specs.Tables.{declared, schema_under}
use Rattle.site_store.specs.declared.kept.Kept.{Kept}
use Rattle.site_store.specs.Faults.{is_of_device, is_of_memory}
use Rattle.site_store.specs.Kept.{failures_after}

-- what an error of the database is to a keeper that isn't open
abbrev pub opening_fault : Error → KeepFault
opening_fault error = if is_of_device error then Device else if is_of_memory error then NoMemory else Store

-- why the tables of a site weren't made in an empty database: memory ran out, or the database failed, for a reason
abbrev pub FailsToBegin : State → State → KeepFault → Type 0
FailsToBegin old new fault = (fault ≡ NoMemory) ⊎ ((error : Error) × (fault ≡ opening_fault error) × HasReason old new error)

-- the rows of each table rise by its key, so that no two have one key
abbrev pub RowsRise : Contents → Type 0
RowsRise rows = (t : SiteTable) → IsStrict (declared t) (rows t)

-- the tables are those of a version, and list the rows of the record under it
pub record ListsUnder (v : Version) (r : Record) (s : State) : Type 0 where
  pub schema : s.now.schema ≡ schema_under v
  pub listed : AreListed v (contents_of (rows_under v r)) s.now.trees

-- under the version of a site that was opened
abbrev pub ListsRows : Record → State → Type 0
ListsRows = ListsUnder Second

-- closed, with the records of before, and the device has failed once more where that is the fault
abbrev pub StaysAs : Kept → KeepFault → Kept → Type 0
StaysAs old fault new = new ≡ record old { is_open = false; failures = failures_after fault old.failures }

-- the tables are those of a version, the rows that they list are those of the record under it, and nothing is changed
abbrev pub ListsRecordUnder : Version → Record → State → State → Type 0
ListsRecordUnder v r old new = ListsUnder v r old × IsUnchanged old new

abbrev pub ListsRecord : Record → State → State → Type 0
ListsRecord = ListsRecordUnder Second
