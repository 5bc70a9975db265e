-- What the tables hold once a step was written, or wasn't, and how many rows that took.
use Rattle.std.specs.Prelude.{◌≡◌, ◌≢◌, ◌⊎◌, ◌+◌, ◌-◌, ◌^◌, ℕ, Bool, true, false, length, min, if◌then◌else◌, IsTrue, ⊤}
use Rattle.sqlite.specs.Tree.{Trees}
use Rattle.sqlite.specs.State.{State, Survives}
use Rattle.sqlite.specs.declared.error.Error.{Error}
use Rattle.site_core.specs.Records.{Record}
use Rattle.site_core.specs.declared.outcomes.Effects.{Effects}
use Rattle.site_rows.specs.RecordRows.{rows_of}
use Rattle.site_rows.specs.StepRows.{Counts, counts_told}
use Rattle.site_tables.specs.Causes.{HasReason}
use Rattle.site_tables.specs.Stored.{Holds, IsStored, contents_of}
use Rattle.site_tables.specs.Tables.{no_schema}
use Rattle.site_store.specs.Faults.{is_of_memory}
use Rattle.site_store.specs.declared.writing.Unwritten.{Unwritten}
use Rattle.site_store.specs.declared.writing.Unwritten.TheVariants.{NoMemory, Failed}

-- the tables hold the rows of the record
abbrev pub HoldsRecord : Record → Trees → Type 0
HoldsRecord r db = Holds (contents_of (rows_of r)) db

-- so they do between two steps, and after a crash
abbrev pub Keeps : Record → State → Type 0
Keeps r s = IsStored (contents_of (rows_of r)) s

-- a crash leaves the rows of the one record or of the other, and no third
abbrev pub LeavesOneOf : Record → Record → State → Type 0
LeavesOneOf old new s = (db : Trees) → s.may_leave db → HoldsRecord old db ⊎ HoldsRecord new db

-- a crash leaves the rows of one of these records and no others
abbrev pub LeavesAny : (Record → Type 0) → State → Type 0
LeavesAny may s = (db : Trees) → s.may_leave db → (r : Record) × may r × HoldsRecord r db

-- it is in a transaction, or has tables
abbrev pub IsInUse : State → Type 0
IsInUse s = IsTrue s.in_transaction ⊎ (s.now.schema ≢ no_schema)

-- where the tables are being made, and where that failed, a crash leaves what it would have left before, or, in a database
-- that was empty, the rows of the record and no others
abbrev pub BeginsAs : Record → State → State → Type 0
BeginsAs r old new = Survives old new (λ db. old.now.schema ≡ no_schema → HoldsRecord r db)

-- what the database keeps of a step that failed: without memory the old rows, and after a failure of its own the old
-- rows or the new
abbrev pub KeepsWhereFailed : Record → Record → State → Unwritten → Type 0
KeepsWhereFailed old new s NoMemory = Keeps old s
KeepsWhereFailed old new s (Failed error) = LeavesOneOf old new s

-- why a step wasn't written: memory ran out, or the database failed, for a reason
abbrev pub FailsToWrite : State → State → Unwritten → Type 0
FailsToWrite old new NoMemory = ⊤
FailsToWrite old new (Failed error) = HasReason old new error

-- what an error is after which the old rows stand
abbrev pub cause_of : Error → Unwritten
cause_of error = if is_of_memory error then NoMemory else Failed error

-- all rows that a step reports
abbrev pub total : Counts → ℕ
total c = c.event + (c.quarantine + c.outbox + c.seen + c.parent) + (c.signalled + c.left + c.recall) + c.numbers

-- a step with these effects writes so many rows: those that it reports, the members of the lists of events, and the packs
-- with their children
pub record ChangesRows (old : Record) (told : Effects) (new : Record) (rows : ℕ) : Type 0 where
  pub parts : ℕ
  pub packs : ℕ
  pub children : ℕ
  pub more : length (rows_of new).part ≡ length (rows_of old).part + parts
  pub more_packs : length (rows_of new).pack ≡ length (rows_of old).pack + packs
  pub more_children : length (rows_of new).packed ≡ length (rows_of old).packed + children
  pub all : rows ≡ total (counts_told told) + parts + packs + children

-- a count of them, which stays at 2^64 - 1
abbrev pub IsCounted : Record → Effects → Record → ℕ → Type 0
IsCounted old told new written = (rows : ℕ) × ChangesRows old told new rows × (written ≡ min 18_446_744_073_709_551_615 rows)

-- the statements of a step: none where nothing changes, else one for each row, and the two that begin and commit
abbrev pub AreStatements : Bool → Record → Effects → Record → ℕ → Type 0
AreStatements false old told new statements = statements ≡ 0
AreStatements true old told new statements = (written : ℕ) × IsCounted old told new written × (statements ≡ min (written + 2) (2 ^ 64 - 1))
