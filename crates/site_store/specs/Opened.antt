-- As which site a database is opened, and why it isn't.
use Rattle.std.specs.Prelude.{◌≡◌, ◌≢◌, ◌⊎◌, ◌∷◌, [], ⊤, ℕ, ℤ, List, Option, Some, None, IsSome, IsTrue, IsUtf8, Result, Ok, Err, option_map, string_bytes, if◌then◌else◌}
use Rattle.std.specs.List.{find}
use Rattle.std.specs.Ordering.{int_eq}
use Rattle.sqlite_disk.specs.declared.Disk as disk
use Rattle.sqlite_wal.specs.Recovery.{Image}
use Rattle.sqlite_store.specs.declared.store.FileStore.{FileStore}
use Rattle.sqlite.specs.Held.{Held}
use Rattle.sqlite.specs.Files.{file_state, AreFoundIn}
use Rattle.sqlite.specs.State.{State, HasCleanDisk, IsUnchanged, Opens, Survives}
use Rattle.sqlite.specs.Tree.{Trees}
use Rattle.sqlite.specs.declared.error.Error.{Error}
use Rattle.site_core.specs.Records.{Record}
use Rattle.site_rows.specs.ReadRows.{IsStateFault}
use Rattle.site_rows.specs.RecordRows.{name_of, rows_under, version_number}
use Rattle.site_rows.specs.declared.reading.StateFault.TheVariants as states
use Rattle.site_rows.specs.declared.rows.Rows.{Rows}
use Rattle.site_rows.specs.declared.rows.SiteRow.{SiteRow}
use Rattle.site_rows.specs.declared.rows.StoreRow.{StoreRow}
use Rattle.site_rows.specs.declared.tables.Table.TheVariants as tables
use Rattle.site_rows.specs.declared.tables.Version.{Version as TableVersion}
use Rattle.site_rows.specs.declared.tables.Version.TheVariants.{First, Second}
use Rattle.site_tables.specs.AllReads.{AreListed}
use Rattle.site_tables.specs.Causes.{HasReason}
use Rattle.site_tables.specs.Stored.{HoldsUnder, IsStoredUnder, contents_of}
use Rattle.site_tables.specs.Tables.{schema_under}
use Rattle.site_tables.specs.Unreadable.{IsUnreadable}
use Rattle.site_tables.specs.declared.faults.ReadFault.{ReadFault}
use Rattle.site_tables.specs.declared.faults.ReadFault.TheVariants as reads
use Rattle.site_store.specs.Faults.{is_of_device, is_of_memory}
use Rattle.site_store.specs.declared.opening.OpenFault.{OpenFault}
use Rattle.site_store.specs.declared.opening.Unfound.{Unfound}
use Rattle.site_store.specs.declared.opening.OpenFault.TheVariants.{NoMemory, NotAStore, Version, OtherSite, BadRow, Device, Store}
use Rattle.site_store.specs.declared.sites.Link.{Link}
use Rattle.site_store.specs.declared.sites.Link.TheVariants.{Connected, Unconnected}
use Rattle.site_store.specs.declared.sites.StoredSite.{StoredSite}
use Rattle.site_store.specs.Leavings.{KeepsOwn}
pub use Rattle.site_store.specs.Findable.{MayBeFound}
use Rattle.site_store.specs.Openings.{ListsRecord, ListsUnder}
use Rattle.site_store.specs.Sites.{shown_by, failed_by, statements_by, link_of, IsKeptBy}
use Rattle.site_store.specs.StepWritten.{HoldsRecord}

-- the name in the row of `site` with this number
abbrev pub name_at : List SiteRow → ℤ → Option (List ℕ)
name_at sites number = option_map (λ (s : SiteRow). s.name) (find (λ (s : SiteRow). int_eq s.no number) sites)

-- the row of `store` has the number of the version that the tables have, and that of a site; this is what `site` says of
-- its name
pub record IsStoreOf (rows : Rows) (name : Option (List ℕ)) : Type 0 where
  pub row : StoreRow
  pub rest : List StoreRow
  pub first : rows.store ≡ row ∷ rest
  pub version : row.version ≡ version_number rows.version
  pub name_is : name_at rows.site row.me ≡ name

-- `store` has no row, or one with the number of another version than the tables have
abbrev pub IsNoStore : Rows → Type 0
IsNoStore rows = (rows.store ≡ []) ⊎ ((row : StoreRow) × (rest : List StoreRow) × (v : TableVersion) × (rows.store ≡ row ∷ rest) × (row.version ≡ version_number v) × (v ≢ rows.version))

-- the name, or bytes that are no text, and so no site's name
abbrev pub MayBeNamed : List ℕ → List ℕ → Type 0
MayBeNamed name own = (own ≡ name) ⊎ ¬ IsUtf8 own

-- the rows are those of a site that may have this name
abbrev pub IsNamedSo : List ℕ → Rows → Type 0
IsNamedSo name rows = (own : List ℕ) × IsStoreOf rows (Some own) × MayBeNamed name own

-- the number is that of another version, or of none
abbrev pub IsOtherVersion : TableVersion → ℤ → OpenFault → Type 0
IsOtherVersion v number NotAStore = (w : TableVersion) × (number ≡ version_number w) × (w ≢ v)
IsOtherVersion v number (Version found) = (found ≡ number) × ((w : TableVersion) → number ≢ version_number w)
IsOtherVersion v number other = ⊥

-- what the rows say against a site of this name, in the order in which it is asked: a row of `store`, its version, which
-- is the tables', a site of its number, the name of that, and rows that stand in a record's
abbrev pub IsRefused : List ℕ → Rows → OpenFault → Type 0
IsRefused name rows NotAStore = IsNoStore rows
IsRefused name rows (Version found) = (row : StoreRow) × (rest : List StoreRow) × (rows.store ≡ row ∷ rest) × (row.version ≡ found) × ((v : TableVersion) → found ≢ version_number v)
IsRefused name rows (OtherSite found) = IsStoreOf rows (Some (string_bytes found)) × (string_bytes found ≢ name)
IsRefused name rows (BadRow bad) =
    (IsStoreOf rows None × (bad ≡ record { table = tables.Store; row = 1 }))
    ⊎ (IsNamedSo name rows × IsStateFault rows (states.BadRow bad))
IsRefused name rows NoMemory = ⊤
IsRefused name rows Device = ⊥
IsRefused name rows Store = ⊥

-- what a fault of a reading is to an opening
abbrev pub unread : ReadFault → OpenFault
unread reads.NoMemory = NoMemory
unread reads.OtherTables = NotAStore
unread (reads.BadRow table row) = BadRow (record { table = table; row = row })
unread (reads.Database error) = if is_of_device error then Device else if is_of_memory error then NoMemory else Store

-- the tables can't be read
abbrev pub IsUnread : State → State → OpenFault → Type 0
IsUnread old new fault = (why : ReadFault) × IsUnreadable old new why × (fault ≡ unread why)

-- what is asked of the tables of a version before the second takes its place: the connection is in a transaction, or the
-- database's error, which has a cause where the tables held the rows of the record
abbrev pub FailsToMigrate : Record → State → State → OpenFault → Type 0
FailsToMigrate r old new fault =
    (IsTrue old.in_transaction × (fault ≡ Store))
    ⊎ ((error : Error) × (fault ≡ unread (reads.Database error)) × (IsStoredUnder First (contents_of (rows_under First r)) old → HasReason old new error))

-- the tables are a site's, nothing is changed, and the rows that they list say so; or they can't be read; or they list the
-- rows of a record under the first version, and the second couldn't take its place
abbrev pub IsOpenFault : State → State → List ℕ → OpenFault → Type 0
IsOpenFault old new name fault =
    ((rows : Rows) × (old.now.schema ≡ schema_under rows.version) × AreListed rows.version (contents_of rows) old.now.trees × IsRefused name rows fault × IsUnchanged old new)
    ⊎ (IsUnread old new fault ⊎ ((r : Record) × ListsUnder First r old × FailsToMigrate r old new fault))

-- the name of the site itself
abbrev pub own_name : Record → List ℕ
own_name r = name_of r.sites r.engagement.me

-- the tables list the rows of such a record under a version, of a site of this name
pub record ListsSite (v : TableVersion) (r : Record) (name : List ℕ) (s : State) : Type 0 where
  pub rows : ListsUnder v r s
  pub site : MayBeFound r
  pub named : own_name r ≡ name

-- memory ran out, the device failed or was shut, or the limit on the steps of a query was met
abbrev pub IsOfMachine : State → OpenFault → Type 0
IsOfMachine s NoMemory = ⊤
IsOfMachine s Device = ⊤
IsOfMachine s Store = IsSome s.step_limit
IsOfMachine s other = ⊥

-- what prevents the opening of a site whose tables list such rows: the machine; and under the first version what prevents
-- the second
abbrev pub IsHindered : TableVersion → Record → State → State → OpenFault → Type 0
IsHindered First r old new fault = IsOfMachine old fault ⊎ FailsToMigrate r old new fault
IsHindered Second r old new fault = IsOfMachine old fault

-- a record whose rows stood under the first version, under the second
abbrev pub HoldsMigrated : State → Trees → Type 0
HoldsMigrated s db = (r : Record) → IsStoredUnder First (contents_of (rows_under First r)) s → HoldsRecord r db

-- what an opening may have committed: the tables listed the rows of a record under the first version, and where those were
-- stored, it is that record under the second
abbrev pub MayMigrate : State → Trees → Type 0
MayMigrate s db = (r : Record) × ListsUnder First r s × (IsStoredUnder First (contents_of (rows_under First r)) s → HoldsRecord r db)

-- a fault that isn't what the rows say
abbrev pub IsOfDatabase : OpenFault → Type 0
IsOfDatabase NoMemory = ⊤
IsOfDatabase Device = ⊤
IsOfDatabase Store = ⊤
IsOfDatabase other = ⊥

abbrev pub CommitsWhere : OpenFault → State → Trees → Type 0
CommitsWhere NoMemory s db = MayMigrate s db
CommitsWhere Device s db = MayMigrate s db
CommitsWhere Store s db = MayMigrate s db
CommitsWhere other s db = ⊥

module _ {D : Type 0} {g : disk.Ghosts D} where
  -- the connection was just made to files in which its tables were found
  abbrev pub IsFound : Held (FileStore D g) → Type 0
  IsFound conn = HasCleanDisk (file_state conn) → Opens (file_state conn) × (image : Image) × AreFoundIn image (file_state conn).committed.trees

  -- a reading of the tables, which lists the rows of the record
  abbrev pub ReadsAt : Held (FileStore D g) → Record → Link D g → Type 0
  ReadsAt before r (Connected after) =
      Survives (file_state before) (file_state after) (λ _. ⊥) × (HasCleanDisk (file_state after) → ListsRecord r (file_state before) (file_state after))
  ReadsAt before r (Unconnected files) = ⊥

  -- a reading of the tables of the first version, which lists the rows of the record; then the second took its place, with
  -- the same record
  abbrev pub MigratesAt : Held (FileStore D g) → Record → Link D g → Type 0
  MigratesAt before r (Connected after) =
      Survives (file_state before) (file_state after) (MayMigrate (file_state before)) × (HasCleanDisk (file_state after) → ListsUnder First r (file_state before))
  MigratesAt before r (Unconnected files) = ⊥

  abbrev pub IsCleanAt : Link D g → Type 0
  IsCleanAt (Connected conn) = HasCleanDisk (file_state conn)
  IsCleanAt (Unconnected files) = ⊥

  -- it shows the record whose rows the tables list, which is that of a site of this name; over a connection just made the
  -- tables hold its rows after a crash, too. Where the tables list the rows of such a site, it is that. No failure and no
  -- statement is counted yet.
  pub record IsOpenedAs (conn : Held (FileStore D g)) (name : List ℕ) (site : StoredSite D g) : Type 0 where
    pub shown : Record
    pub shows : shown_by site ≡ Some shown
    pub named : own_name shown ≡ name
    pub fresh : (failed_by site ≡ 0) × (statements_by site ≡ 0)
    pub reads : ReadsAt conn shown (link_of site) ⊎ MigratesAt conn shown (link_of site)
    pub finds : IsCleanAt (link_of site) → (v : TableVersion) (r : Record) → ListsSite v r name (file_state conn) → shown ≡ r
    pub kept : IsFound conn → IsKeptBy site shown
    pub own : IsFound conn → KeepsOwn site

  -- The connection is given back, and the tables say why. Where they list the rows of such a site, nothing but the machine
  -- prevents its opening, or that of the second version in place of the first. Nothing was written, or that alone.
  pub record IsNotOpened (conn : Held (FileStore D g)) (name : List ℕ) (left : Held (FileStore D g)) (fault : OpenFault) : Type 0 where
    pub crash : Survives (file_state conn) (file_state left) (CommitsWhere fault (file_state conn))
    pub cause : HasCleanDisk (file_state left) → IsOpenFault (file_state conn) (file_state left) name fault
    pub finds : HasCleanDisk (file_state left) → (v : TableVersion) (r : Record) → ListsSite v r name (file_state conn) → IsHindered v r (file_state conn) (file_state left) fault

  -- the connection was just made to files in which a crash left the rows of a record under a version, which a site of this
  -- name may keep
  pub record IsLeftOf (conn : Held (FileStore D g)) (name : List ℕ) (v : TableVersion) (r : Record) : Type 0 where
    pub opens : Opens (file_state conn)
    pub holds : HoldsUnder v (contents_of (rows_under v r)) (file_state conn).committed.trees
    pub site : MayBeFound r
    pub named : own_name r ≡ name

  -- it is opened in just that record, or this prevents it
  abbrev pub FindsLeft : Held (FileStore D g) → List ℕ → Result (StoredSite D g) (Unfound D g) → Type 0
  FindsLeft conn name (Ok site) = IsCleanAt (link_of site) → (v : TableVersion) (r : Record) → IsLeftOf conn name v r → shown_by site ≡ Some r
  FindsLeft conn name (Err left) =
      HasCleanDisk (file_state left.conn) → (v : TableVersion) (r : Record) → IsLeftOf conn name v r
      → IsHindered v r (file_state conn) (file_state left.conn) left.fault
