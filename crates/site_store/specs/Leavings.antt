-- What a crash leaves of the files of a site, from one call to the next.
use Rattle.std.specs.Prelude.{ℕ, zero, suc, Bool, true, false, ⊤}
use Rattle.sqlite_disk.specs.declared.Disk as disk
use Rattle.sqlite_wal.specs.Reads.{AreClean}
use Rattle.sqlite.specs.Tree.{Trees}
use Rattle.sqlite.specs.State.{HasCleanDisk}
use Rattle.sqlite.specs.Files.{file_state}
use Rattle.site_core.specs.Records.{Record}
use Rattle.site_store.specs.declared.kept.Kept.{Kept}
use Rattle.site_store.specs.declared.sites.Link.{Link}
use Rattle.site_store.specs.declared.sites.Link.TheVariants.{Connected, Unconnected}
use Rattle.site_store.specs.declared.sites.StoredSite.{StoredSite}
use Rattle.site_store.specs.Kept.{MayIn}
use Rattle.site_store.specs.Reopened.{LeaveOnly, IsReopened}
use Rattle.site_store.specs.Sites.{IsKeptAt}
use Rattle.site_store.specs.StepWritten.{HoldsRecord}

-- the rows of one of these records, and no others
abbrev pub HoldsOneOf : (Record → Type 0) → Trees → Type 0
HoldsOneOf may db = (r : Record) × may r × HoldsRecord r db

module _ {D : Type 0} {g : disk.Ghosts D} where
  -- where the disk is honest, a crash leaves the rows of one of these records and no others
  abbrev pub LinkLeaves : (Record → Type 0) → Link D g → Type 0
  LinkLeaves may (Connected conn) = HasCleanDisk (file_state conn) → (db : Trees) → (file_state conn).may_leave db → ∥ HoldsOneOf may db ∥₁
  LinkLeaves may (Unconnected files) = AreClean g files.log files.db → LeaveOnly g (HoldsOneOf may) files

  -- so it does where a connection was made again
  abbrev pub StillLeaves : (Record → Type 0) → Link D g → Link D g → Type 0
  StillLeaves may old (Connected conn) = LinkLeaves may old → LinkLeaves may (Connected conn)
  StillLeaves may old (Unconnected files) = ⊤

  -- it did so this many openings ago, of which each failed
  abbrev pub LeavesSince : ℕ → (Record → Type 0) → Link D g → Type 0
  LeavesSince zero may link = LinkLeaves may link
  LeavesSince (suc failed) may link = (before : Link D g) × LeavesSince failed may before × IsReopened before link

  abbrev pub LeavesOwnAt : Bool → Link D g → Kept → Type 0
  LeavesOwnAt true link kept = IsKeptAt link kept.standing.state
  LeavesOwnAt false link kept = LinkLeaves (MayIn kept) link

  -- its tables hold the record that it shows, now and after a crash; while it is closed, a crash leaves one of the records
  -- in which it may be opened, and no other
  abbrev pub LeavesOwn : StoredSite D g → Type 0
  LeavesOwn site = LeavesOwnAt site.kept.is_open site.link site.kept

  abbrev pub KeepsOwnAt : Bool → Link D g → Kept → Type 0
  KeepsOwnAt true link kept = IsKeptAt link kept.standing.state
  KeepsOwnAt false link kept = (failed : ℕ) × LeavesSince failed (MayIn kept) link

  -- Its tables hold the record that it shows, now and after a crash. While it is closed, a crash leaves one of the records
  -- in which it may be opened, or left one before the openings that failed.
  abbrev pub KeepsOwn : StoredSite D g → Type 0
  KeepsOwn site = KeepsOwnAt site.kept.is_open site.link site.kept
