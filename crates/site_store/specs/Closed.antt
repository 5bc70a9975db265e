-- What the closing of a site leaves of its files.
use Rattle.std.specs.Prelude.{◌≡◌, Result, Ok, Err}
use Rattle.sqlite_disk.specs.declared.Disk as disk
use Rattle.sqlite_disk.specs.declared.Files.{Files}
use Rattle.sqlite_wal.specs.Reads.{AreClean}
use Rattle.sqlite_store.specs.FileStore as store
use Rattle.sqlite_store.specs.declared.store.FileStore.{FileStore}
use Rattle.sqlite.specs.Files.{IsClosed}
use Rattle.sqlite.specs.Held.{Held}
use Rattle.site_store.specs.Crashes.{StandsFor}
use Rattle.site_store.specs.Leavings.{HoldsOneOf, LeavesOwn}
use Rattle.site_store.specs.Reopened.{LeaveOnly}
use Rattle.site_store.specs.Sites.{link_of}
use Rattle.site_store.specs.declared.sites.Link.{Link}
use Rattle.site_store.specs.declared.sites.Link.TheVariants.{Connected, Unconnected}
use Rattle.site_store.specs.declared.sites.StoredSite.{StoredSite}

module _ {D : Type 0} {g : disk.Ghosts D} where
  -- the files of a store that was shut, with no new outcome of a crash
  abbrev pub IsShut : Held (FileStore D g) → Files D → Type 0
  IsShut conn files = (last : FileStore D g) × IsClosed conn last × ((files.log, files.db) ≡ store.files last)

  abbrev pub IsShutAt : Link D g → Files D → Type 0
  IsShutAt (Connected conn) files = IsShut conn files
  IsShutAt (Unconnected before) files = ⊥

  -- where the disk is honest, a crash leaves of the files the rows of the record that the site showed, or of one in which it might
  -- have been opened, and no others
  abbrev pub LeavesIts : StoredSite D g → Files D → Type 0
  LeavesIts site files = AreClean g files.log files.db → LeaveOnly g (HoldsOneOf (StandsFor site)) files

  -- so it is where a crash left just that before; or the connection was shut
  abbrev pub ClosesAs : StoredSite D g → Result (Files D) (Files D) → Type 0
  ClosesAs site (Ok files) = LeavesOwn site → LeavesIts site files
  ClosesAs site (Err files) = IsShutAt (link_of site) files
