-- A site kept by the files of a connection.
use Rattle.std.specs.Prelude.{◌≡◌, ⊤, ℕ, Option, Some, None, Result, Ok, Err, IfErr, Bool, false, IsTrue, refl}
use mathlib.Core.Logic.{inl}
use Rattle.sqlite_disk.specs.declared.Disk as disk
use Rattle.sqlite_store.specs.declared.store.FileStore.{FileStore}
use Rattle.sqlite.specs.Held.{Held}
use Rattle.sqlite.specs.Files.{file_state}
use Rattle.sqlite.specs.State.{HasCleanDisk}
use Rattle.site_core.specs.Records.{Record}
use Rattle.site_core.specs.declared.inputs.SiteInput.{SiteInput}
use Rattle.site_core.specs.declared.outcomes.Effects.{Effects}
use Rattle.keeper_core.specs.declared.faults.Keep.{Keep}
use Rattle.keeper_core.specs.declared.faults.KeepFault.{KeepFault}
use Rattle.keeper_core.specs.declared.faults.KeepFault.TheVariants.{Closed, Device, Store}
use Rattle.keeper_core.specs.declared.faults.Unopened.{Unopened}
use Rattle.site_rows.specs.declared.tables.Version.{Version}
use Rattle.site_tables.specs.AllReads.{AreListed}
use Rattle.site_tables.specs.Stored.{Contents, IsStoredUnder}
use Rattle.site_tables.specs.Tables.{schema_under}
use Rattle.site_store.specs.declared.kept.Kept.{Kept}
use Rattle.site_store.specs.declared.sites.Link.{Link}
use Rattle.site_store.specs.declared.sites.Link.TheVariants.{Connected, Unconnected}
use Rattle.site_store.specs.declared.sites.StoredSite.{StoredSite}
use Rattle.site_store.specs.Faults.{IsCaused}
use Rattle.site_store.specs.Kept.{shown_in, HasFailed, MayIn, AppliesKept, StopsKept, KeepsAfter, KeepsStopped, is_idle}
use Rattle.site_store.specs.Openings.{StaysAs, ListsRows}
use Rattle.site_store.specs.Reopened.{IsReopened, IsOfDevice}
use Rattle.site_store.specs.StepWritten.{Keeps}

module _ {D : Type 0} {g : disk.Ghosts D} where
  -- ---- what a site shows and may be opened in

  abbrev pub shown_at : Link D g → Kept → Option Record
  shown_at (Connected conn) kept = shown_in kept
  shown_at (Unconnected files) kept = None

  -- the record, while there is a connection and it is open
  abbrev pub shown_by : StoredSite D g → Option Record
  shown_by site = shown_at site.link site.kept

  -- the records in which it may be opened while it is closed
  abbrev pub MayBy : StoredSite D g → Record → Type 0
  MayBy site = MayIn site.kept

  pub may_be_opened_by : (site : StoredSite D g) → shown_by site ≡ None → (r : Record) × MayBy site r
  may_be_opened_by site closed = (site.kept.standing.state, inl refl)

  -- the store failed in the step that closed it: the one whose rows may be written is kept
  abbrev pub StoreFailed : StoredSite D g → Type 0
  StoreFailed site = HasFailed site.kept

  -- how often the device has failed
  abbrev pub failed_by : StoredSite D g → ℕ
  failed_by site = site.kept.failures

  -- how many statements the last step ran that had effects
  abbrev pub statements_by : StoredSite D g → ℕ
  statements_by site = site.kept.statements

  -- what leads to the tables
  abbrev pub link_of : StoredSite D g → Link D g
  link_of site = site.link

  -- ---- what its tables hold

  -- where the disk is honest, the tables hold the rows of the record, now and after a crash
  abbrev pub IsKeptOver : Held (FileStore D g) → Record → Type 0
  IsKeptOver conn r = HasCleanDisk (file_state conn) → Keeps r (file_state conn)

  abbrev pub IsKeptAt : Link D g → Record → Type 0
  IsKeptAt (Connected conn) r = IsKeptOver conn r
  IsKeptAt (Unconnected files) r = ⊥

  -- the site has a connection, and so it is there
  abbrev pub IsKeptBy : StoredSite D g → Record → Type 0
  IsKeptBy site = IsKeptAt site.link

  -- where the disk is honest, rows that the queries list are stored, under the version of the tables: a crash leaves these
  -- and no others
  abbrev pub StoresListed : Held (FileStore D g) → Type 0
  StoresListed conn =
      HasCleanDisk (file_state conn) → (v : Version) → (file_state conn).now.schema ≡ schema_under v → (rows : Contents) → AreListed v rows (file_state conn).now.trees
      → IsStoredUnder v rows (file_state conn)

  -- ---- steps

  -- a step; and where the tables held the rows of the record, what they hold after it on an honest disk, and why it failed
  abbrev pub AppliesAt : Link D g → Kept → SiteInput → Result Effects KeepFault → Link D g → Kept → Type 0
  AppliesAt (Connected before) old input answer (Connected after) new =
      AppliesKept old.is_open old input answer new
      × (IsTrue (is_idle answer) → after ≡ before)
      × (IsKeptOver before old.standing.state → HasCleanDisk (file_state after) → KeepsAfter new answer (file_state after))
      × (IsKeptOver before old.standing.state → HasCleanDisk (file_state after) → IfErr answer (IsCaused (file_state before) (file_state after)))
  AppliesAt (Unconnected before) old input answer (Unconnected after) new = (answer ≡ Err Closed) × (new ≡ old) × (after ≡ before)
  AppliesAt before old input answer after new = ⊥

  abbrev pub AppliesBy : StoredSite D g → SiteInput → Result Effects KeepFault → StoredSite D g → Type 0
  AppliesBy old input answer new = AppliesAt old.link old.kept input answer new.link new.kept × (new.options ≡ old.options)

  -- and a stop
  abbrev pub StopsAt : Link D g → Kept → SiteInput → Keep → Bool → Link D g → Kept → Type 0
  StopsAt (Connected before) old input keep done (Connected after) new =
      StopsKept old.is_open old input keep done new
      × (old.is_open ≡ false → after ≡ before)
      × (IsTrue old.is_open → IsKeptOver before old.standing.state → HasCleanDisk (file_state after) → KeepsStopped new done (file_state after))
  StopsAt (Unconnected before) old input keep done (Unconnected after) new = (IsTrue done) × (new ≡ old) × (after ≡ before)
  StopsAt before old input keep done after new = ⊥

  abbrev pub StopsBy : StoredSite D g → SiteInput → Keep → Bool → StoredSite D g → Type 0
  StopsBy old input keep done new = StopsAt old.link old.kept input keep done new.link new.kept × (new.options ≡ old.options)

  -- ---- openings

  -- opened in one of its records, whose rows the tables hold
  abbrev pub OpensIn : Kept → StoredSite D g → Type 0
  OpensIn old site = (failed_by site ≡ old.failures) × (r : Record) × MayIn old r × (shown_by site ≡ Some r) × IsKeptBy site r

  abbrev pub StaysShut : Kept → Unopened (StoredSite D g) → Type 0
  StaysShut old left = StaysAs old left.fault left.keeper.kept

  -- where a connection was made, Store says that its tables list the rows of none of the records
  abbrev pub NoneListed : Kept → KeepFault → Link D g → Type 0
  NoneListed old fault (Connected conn) = HasCleanDisk (file_state conn) → fault ≡ Store → (r : Record) → MayIn old r → ListsRows r (file_state conn) → ⊥
  NoneListed old fault (Unconnected files) = ⊤

  abbrev pub ReopensBy : StoredSite D g → Result (StoredSite D g) (Unopened (StoredSite D g)) → Type 0
  ReopensBy old (Ok site) = shown_by old ≡ None → OpensIn old.kept site
  ReopensBy old (Err left) =
      StaysShut old.kept left × NoneListed old.kept left.fault left.keeper.link × IsReopened old.link left.keeper.link
      × (left.fault ≡ Device → IsOfDevice old.link left.keeper.link)
