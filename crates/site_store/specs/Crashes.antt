-- An opening after a crash.
use Rattle.std.specs.Prelude.{◌≡◌, ◌⊎◌, ⊤, ℕ, Bool, List, Some, None, Result, Ok, Err, MatchResult}
use Rattle.sqlite_disk.specs.declared.Disk as disk
use Rattle.sqlite_disk.specs.declared.Files.{Files}
use Rattle.sqlite_wal.specs.Files.{outcomes}
use Rattle.sqlite_wal.specs.Reads.{AreClean}
use Rattle.sqlite_store.specs.declared.store.FileStore.{FileStore}
use Rattle.sqlite.specs.Tree.{Trees}
use Rattle.sqlite.specs.Held.{Held}
use Rattle.sqlite.specs.Files.{HoldsDatabase, Finds, image_of, file_state}
use Rattle.sqlite.specs.State.{HasCleanDisk, Opens}
use Rattle.site_core.specs.Records.{Record}
use Rattle.site_core.specs.declared.inputs.SiteInput.{SiteInput}
use Rattle.site_core.specs.declared.outcomes.Effects.{Effects}
use Rattle.keeper_core.specs.declared.faults.Keep.{Keep}
use Rattle.keeper_core.specs.declared.faults.KeepFault.{KeepFault}
use Rattle.keeper_core.specs.declared.faults.Unopened.{Unopened}
use Rattle.keeper_core.specs.Keeping.{MayBeOldOrNew}
use Rattle.site_store.specs.declared.opening.OpenFault.{OpenFault}
use Rattle.site_store.specs.declared.opening.OpenFault.TheVariants.{NoMemory, Device}
use Rattle.site_store.specs.declared.opening.Unfound.{Unfound}
use Rattle.site_store.specs.declared.sites.Link.{Link}
use Rattle.site_store.specs.declared.sites.Link.TheVariants.{Connected, Unconnected}
use Rattle.site_store.specs.declared.sites.StoredSite.{StoredSite}
use Rattle.site_store.specs.Leavings.{LeavesOwn, KeepsOwn}
use Rattle.site_store.specs.Opened.{own_name, CommitsWhere, IsCleanAt, IsNotOpened}
use Rattle.site_store.specs.Sites.{shown_by, MayBy, link_of, AppliesBy, StopsBy, ReopensBy}

module _ {D : Type 0} {g : disk.Ghosts D} where
  -- ---- after a crash

  -- The two files after a crash, where the disk was honest till then: of a connection, files that hold a database which
  -- a crash may leave; else what a crash may leave of the files.
  abbrev pub AreLeftBehind : Link D g → Files D → Type 0
  AreLeftBehind (Connected conn) files =
      HasCleanDisk (file_state conn)
      × ∥ ((db : Trees) × (file_state conn).may_leave db × HoldsDatabase (image_of g files) db) ∥₁
  AreLeftBehind (Unconnected before) files =
      AreClean g before.log before.db × outcomes g before.log before.db (image_of g files)

  -- the same of a connection whose site wasn't opened, or what that committed
  abbrev pub AreLeftOrMigrated : Held (FileStore D g) → OpenFault → Files D → Type 0
  AreLeftOrMigrated conn fault files =
      HasCleanDisk (file_state conn)
      × ∥ ((db : Trees) × ((file_state conn).may_leave db ⊎ CommitsWhere fault (file_state conn) db) × HoldsDatabase (image_of g files) db) ∥₁

  -- a connection just made to these files, which are read as the database reads them; no query of it has a limit
  pub record IsMadeOver (files : Files D) (conn : Held (FileStore D g)) : Type 0 where
    pub opens : HasCleanDisk (file_state conn) → Opens (file_state conn)
    pub finds : HasCleanDisk (file_state conn) → Finds files conn
    pub unlimited : conn.step_limit ≡ None

  -- the site was lost in a crash, and the connection was made to what that left of its files
  abbrev pub IsAfterCrash : StoredSite D g → Held (FileStore D g) → Type 0
  IsAfterCrash site conn = (files : Files D) × AreLeftBehind (link_of site) files × IsMadeOver files conn

  -- ---- the records of a site

  -- the record that it shows, or while it is closed one of those in which it may be opened
  abbrev pub StandsFor : StoredSite D g → Record → Type 0
  StandsFor site r = (shown_by site ≡ Some r) ⊎ ((shown_by site ≡ None) × MayBy site r)

  -- they are those of a site of this name
  abbrev pub AreNamed : StoredSite D g → List ℕ → Type 0
  AreNamed site name = (r : Record) → StandsFor site r → own_name r ≡ name

  -- Opened after a crash, it shows one of these records, and keeps its own again; on an honest disk nothing but want of
  -- memory or a failure of the device prevents that.
  abbrev pub OpensAfter : StoredSite D g → Result (StoredSite D g) (Unfound D g) → Type 0
  OpensAfter site (Ok again) =
      (IsCleanAt (link_of again) → ∥ ((r : Record) × StandsFor site r × (shown_by again ≡ Some r)) ∥₁)
      × LeavesOwn again
  OpensAfter site (Err left) =
      HasCleanDisk (file_state left.conn) → (left.fault ≡ NoMemory) ⊎ (left.fault ≡ Device)

  -- the one stands for no record that the other doesn't stand for
  abbrev pub AreAmong : StoredSite D g → StoredSite D g → Type 0
  AreAmong site other = (r : Record) → StandsFor site r → StandsFor other r

  -- ---- from call to call

  abbrev pub HasConnection : Link D g → Type 0
  HasConnection (Connected conn) = ⊤
  HasConnection (Unconnected files) = ⊥

-- what a reopening returns
abbrev pub Reopening : {D : Type 0} → disk.Ghosts D → Type 0
Reopening {D} g = Result (StoredSite D g) (Unopened (StoredSite D g))

-- A site that shows a record which it keeps as its own leaves it in a crash; and from call to call what a crash leaves
-- is the site's own, but for a reopening that gets no connection. After an opening by name that failed it leaves what it
-- might have left before, or where the machine failed in a migration the second version of what the first held.
pub record CallsLeaveOwn {D : Type 0} (g : disk.Ghosts D) : Type 0 where
  pub shown : (site : StoredSite D g) (r : Record) → shown_by site ≡ Some r → KeepsOwn site → LeavesOwn site
  pub kept : (site : StoredSite D g) → LeavesOwn site → KeepsOwn site
  pub applied : (old new : StoredSite D g) (input : SiteInput) (answer : Result Effects KeepFault)
      → AppliesBy old input answer new → LeavesOwn old → LeavesOwn new
  pub stopped : (old new : StoredSite D g) (input : SiteInput) (keep : Keep) (done : Bool)
      → StopsBy old input keep done new → LeavesOwn old → LeavesOwn new
  pub reopened : (old : StoredSite D g) (result : Reopening g)
      → shown_by old ≡ None → ReopensBy old result → LeavesOwn old
      → MatchResult result LeavesOwn (λ left. HasConnection (link_of left.keeper) → LeavesOwn left.keeper)
  pub refused : (before after : Held (FileStore D g)) (name : List ℕ) (fault : OpenFault)
      → IsNotOpened before name after fault
      → (files : Files D) → AreLeftBehind (Connected after) files → AreLeftOrMigrated before fault files

-- A site that showed a record stands after a step or a stop for that record, or for the one after the input, and for no
-- third; and one that showed none stands after a reopening for no other record than before.
pub record CallsKeepToOldOrNew {D : Type 0} (g : disk.Ghosts D) : Type 0 where
  pub applied : (old new : StoredSite D g) (input : SiteInput) (answer : Result Effects KeepFault) (r : Record)
      → shown_by old ≡ Some r → AppliesBy old input answer new → MayBeOldOrNew r input (StandsFor new)
  pub stopped : (old new : StoredSite D g) (input : SiteInput) (keep : Keep) (done : Bool) (r : Record)
      → shown_by old ≡ Some r → StopsBy old input keep done new → MayBeOldOrNew r input (StandsFor new)
  pub reopened : (old : StoredSite D g) (result : Reopening g)
      → shown_by old ≡ None → ReopensBy old result
      → MatchResult result (λ site. AreAmong site old) (λ left. AreAmong left.keeper old)
