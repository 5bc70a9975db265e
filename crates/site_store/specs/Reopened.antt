-- What a closing and an opening leave of the files behind a site.
use Rattle.std.specs.Prelude.{◌≡◌, ◌⊎◌, ◌&&◌, false, true}
use Rattle.sqlite_disk.specs.declared.Disk as disk
use Rattle.sqlite_disk.specs.declared.Files.{Files}
use Rattle.sqlite_disk.specs.Disk.{MoreFaults}
use Rattle.sqlite_wal.specs.Recovery.{Image}
use Rattle.sqlite_wal.specs.Files.{outcomes}
use Rattle.sqlite_wal.specs.Reads.{AreClean}
use Rattle.sqlite_store.specs.declared.store.FileStore.{FileStore}
use Rattle.sqlite.specs.Tree.{Trees}
use Rattle.sqlite.specs.Held.{Held}
use Rattle.sqlite.specs.State.{HasCleanDisk, Survives}
use Rattle.sqlite.specs.Files.{HoldsDatabase, image_of, file_state, LeavesFiles, IsCleanLeft, FailsToOpenFiles}
use Rattle.sqlite.specs.Closing.{files_left}
use Rattle.sqlite.specs.declared.error.Error.{Error}
use Rattle.sqlite.specs.declared.file.Leftover.{Leftover}
use Rattle.site_store.specs.Faults.{is_of_device}
use Rattle.site_store.specs.declared.sites.Link.{Link}
use Rattle.site_store.specs.declared.sites.Link.TheVariants.{Connected, Unconnected}

-- each pair of contents that a crash may leave of the two files holds a database of which `P` holds
abbrev pub LeaveOnly : {D : Type 0} → disk.Ghosts D → (Trees → Type 0) → Files D → Type 0
LeaveOnly g P files = (image : Image) → outcomes g files.log files.db image → ∥ ((db : Trees) × HoldsDatabase image db × P db) ∥₁

-- a sync of one of the two has failed
abbrev pub AreUnusable : {D : Type 0} → disk.Ghosts D → Files D → Type 0
AreUnusable g files = (g.is_usable files.log && g.is_usable files.db) ≡ false

-- What an opening that failed left of the files, as the database says it; or the files can't be used, and are as they were.
abbrev pub AreLeftOf : {D : Type 0} → disk.Ghosts D → Files D → Files D → Type 0
AreLeftOf {D} g before files =
    (AreUnusable g before × (files ≡ before))
    ⊎ ((left : Leftover D g) × ((files.log, files.db) ≡ files_left left) × (IsCleanLeft left → LeavesFiles before left))

-- Why the device is blamed where files weren't opened: a sync of one of the two had failed; or that is the error of their
-- opening, which the database explains.
abbrev pub FailsToConnect : {D : Type 0} → disk.Ghosts D → Files D → Files D → Type 0
FailsToConnect {D} g before files =
    AreUnusable g before
    ⊎ ((left : Leftover D g) × (error : Error) × ((files.log, files.db) ≡ files_left left) × (is_of_device error ≡ true) × (IsCleanLeft left → FailsToOpenFiles before left error))

module _ {D : Type 0} {g : disk.Ghosts D} where
  -- the files of a connection that was closed: a crash leaves no other database of them than it might before
  abbrev pub AreOf : Held (FileStore D g) → Files D → Type 0
  AreOf conn files = AreClean g files.log files.db → HasCleanDisk (file_state conn) × LeaveOnly g (file_state conn).may_leave files

  abbrev pub AreBehind : Link D g → Files D → Type 0
  AreBehind (Connected conn) files = AreOf conn files
  AreBehind (Unconnected before) files = files ≡ before

  -- a connection to the files: where they hold a database, a crash leaves this one
  abbrev pub IsMadeTo : Files D → Held (FileStore D g) → Type 0
  IsMadeTo files conn =
      HasCleanDisk (file_state conn)
      → AreClean g files.log files.db × ((db : Trees) → HoldsDatabase (image_of g files) db → (left : Trees) → (file_state conn).may_leave left → left ≡ db)

  abbrev pub IsOpenedOver : Files D → Link D g → Type 0
  IsOpenedOver files (Connected conn) = IsMadeTo files conn
  IsOpenedOver files (Unconnected left) = AreLeftOf g files left

  -- the files were closed, and opened again where that could be
  pub record IsReopened (old new : Link D g) : Type 0 where
    pub files : Files D
    pub behind : AreBehind old files
    pub again : IsOpenedOver files new

  -- a connection over which nothing was written since
  abbrev pub IsOnlyRead : Held (FileStore D g) → Link D g → Type 0
  IsOnlyRead before (Connected after) = Survives (file_state before) (file_state after) (λ _. ⊥)
  IsOnlyRead before (Unconnected files) = ⊥

  -- ---- why the device is blamed

  -- over a connection that was made the disk failed, as it counts itself
  abbrev pub FailsOver : Held (FileStore D g) → Link D g → Type 0
  FailsOver made (Connected after) = HasCleanDisk (file_state after) → MoreFaults (file_state made).faults (file_state after).faults
  FailsOver made (Unconnected files) = ⊥

  abbrev pub FailsSince : Files D → Link D g → Type 0
  FailsSince files (Connected conn) = (made : Held (FileStore D g)) × IsMadeTo files made × FailsOver made (Connected conn)
  FailsSince files (Unconnected left) = FailsToConnect g files left

  -- the files were closed, and then the device failed
  pub record IsOfDevice (old new : Link D g) : Type 0 where
    pub files : Files D
    pub behind : AreBehind old files
    pub fails : FailsSince files new
