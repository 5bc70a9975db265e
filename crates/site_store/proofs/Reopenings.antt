-- Files that were closed and opened again.
use Rattle.std.specs.Prelude.{IfOk, IfErr}
use Rattle.std.proofs.Common.{◌≡◌, true, IsTrue, Result, Ok, Err, sym, ◌∙◌, subst, arith, ⊎_elim}
use Rattle.std.proofs.Math.Logic.{∥∥₁_elim, ∥∥₁_map}
use Rattle.sqlite_disk.specs.declared.Disk as disk
use Rattle.sqlite_disk.specs.declared.Files.{Files}
use Rattle.sqlite_wal.specs.Files.{outcomes}
use Rattle.sqlite_wal.specs.Reads.{AreClean}
use Rattle.sqlite_wal.proofs.LogLemmas.{SeenMayStay}
use Rattle.sqlite_pool.proofs.StateLemmas.{clean_is, may_leave_is}
use Rattle.sqlite_trees.specs.View.{IsClean, IsQuiet}
use Rattle.sqlite_trees.proofs.Doubt.{no_doubt}
use Rattle.sqlite_store.specs.declared.store.FileStore.{FileStore}
use Rattle.sqlite_store.specs.FileStore as store
use Rattle.sqlite.specs.declared.error.Error.{Error}
use Rattle.sqlite.specs.Tree.{Trees}
use Rattle.sqlite.specs.Held.{Held, AreDatabases}
use Rattle.sqlite.specs.Files.{HoldsDatabase, image_of}
use Rattle.sqlite.proofs.Theorems.{opens_again}
use Rattle.site_core.specs.Records.{Record}
use Rattle.keeper_core.specs.declared.faults.Unopened.{Unopened}
use Rattle.site_store.specs.declared.sites.Link.{Link}
use Rattle.site_store.specs.declared.sites.Link.TheVariants.{Connected, Unconnected}
use Rattle.site_store.specs.declared.sites.StoredSite.{StoredSite}
use Rattle.site_store.specs.Leavings.{HoldsOneOf, LinkLeaves, StillLeaves}
use Rattle.keeper_core.specs.declared.faults.KeepFault.TheVariants.{Device}
use Rattle.site_store.specs.Faults.{is_of_device}
use Rattle.site_store.specs.Reopened.{AreOf, AreBehind, IsMadeTo, AreLeftOf, FailsOver, FailsToConnect, IsOfDevice, IsReopened, IsOnlyRead}

module _ {D : Type 0} {g : disk.Ghosts D} where
  -- the files of a store that a connection became
  are_of : (conn : Held (FileStore D g)) (last : FileStore D g) (files : Files D) → (IsClean (store.view last) → IsTrue (store.view last).is_numbered) → (IsClean (store.view last) → AreDatabases (store.recovers last))
      → IsQuiet store.view store.faults store.recovers store.is_shielded conn.store last → (files.log, files.db) ≡ store.files last → AreOf conn files
  are_of conn last files numbered sound quiet same honest =
      let sure = subst (λ (p : D × D). AreClean g p.0 p.1) same honest in
      let none : IsClean (store.view last) = no_doubt _ (clean_is last.pool ∙ sure) in (
        omega (arith, quiet.clean, none),
        λ image may. ∥∥₁_map (opens_again last (numbered none) (sound none) image (may_leave_is last.pool image sure (subst (λ (p : D × D). outcomes g p.0 p.1 image) same may)))
            (λ it. (it.0, it.2, quiet.outcomes it.0 it.1)),
      )

  pub are_behind : (link : Link D g) (conn : Held (FileStore D g)) (last : FileStore D g) (files : Files D) → link ≡ Connected conn → (IsClean (store.view last) → IsTrue (store.view last).is_numbered)
      → (IsClean (store.view last) → AreDatabases (store.recovers last)) → IsQuiet store.view store.faults store.recovers store.is_shielded conn.store last → (files.log, files.db) ≡ store.files last → AreBehind link files
  are_behind link conn last files is numbered sound quiet same = subst (λ l. AreBehind l files) (sym is) (are_of conn last files numbered sound quiet same)

  -- ---- results

  pub made_again : (link : Link D g) (files : Files D) (result : Result (Held (FileStore D g)) (Error × Files D)) → AreBehind link files → IfOk result (IsMadeTo files) → IfOk result (λ conn. IsReopened link (Connected conn))
  made_again link files (Ok conn) behind made = record { files = files; behind = behind; again = made }
  made_again link files (Err left) behind made = tt

  pub left_again : (link : Link D g) (files : Files D) (result : Result (Held (FileStore D g)) (Error × Files D)) → AreBehind link files → IfErr result (λ left. AreLeftOf g files left.1) → IfErr result (λ left. IsReopened link (Unconnected left.1))
  left_again link files (Ok conn) behind left = tt
  left_again link files (Err e) behind left = record { files = files; behind = behind; again = left }

  pub failed_again : (link : Link D g) (files : Files D) (result : Result (Held (FileStore D g)) (Error × Files D)) → AreBehind link files → IfErr result (λ left. is_of_device left.0 ≡ true → FailsToConnect g files left.1)
      → IfErr result (λ left. is_of_device left.0 ≡ true → IsOfDevice link (Unconnected left.1))
  failed_again link files (Ok conn) behind failed = tt
  failed_again link files (Err e) behind failed = λ is. record { files = files; behind = behind; fails = failed is }

  fails_since : (old link : Link D g) (conn : Held (FileStore D g)) → IsReopened old (Connected conn) → FailsOver conn link → IsOfDevice old link
  fails_since old (Connected after) conn it fails = record { files = it.files; behind = it.behind; fails = (conn, it.again, fails) }
  fails_since old (Unconnected files) conn it fails = absurd fails

  -- the disk failed over the connection that was made to the files
  pub failed_over : (old : Link D g) (conn : Held (FileStore D g)) (result : Result (StoredSite D g) (Unopened (StoredSite D g))) → IsReopened old (Connected conn)
      → IfErr result (λ left. left.fault ≡ Device → FailsOver conn left.keeper.link) → IfErr result (λ left. left.fault ≡ Device → IsOfDevice old left.keeper.link)
  failed_over old conn (Ok site) it failed = tt
  failed_over old conn (Err left) it failed = λ is. fails_since old left.keeper.link conn it (failed is)

  -- what is read over a connection leaves of the files what its opening left
  still_made : (old link : Link D g) (conn : Held (FileStore D g)) → IsReopened old (Connected conn) → IsOnlyRead conn link → IsReopened old link
  still_made old (Connected after) conn it read = record {
    files = it.files;
    behind = it.behind;
    again = λ clean.
        let was = it.again (omega (arith, read.clean, clean)) in
        (was.0, λ db holds left may. ⊎_elim (λ before. was.1 db holds left before) (λ none. absurd none) (read.crash clean left may));
  }
  still_made old (Unconnected files) conn it read = absurd read

  pub reopened_of : (old : Link D g) (conn : Held (FileStore D g)) (result : Result (StoredSite D g) (Unopened (StoredSite D g))) → IsReopened old (Connected conn) → IfErr result (λ left. IsOnlyRead conn left.keeper.link)
      → IfErr result (λ left. IsReopened old left.keeper.link)
  reopened_of old conn (Ok site) it read = tt
  reopened_of old conn (Err left) it read = still_made old left.keeper.link conn it read

  -- ---- what a crash leaves

  module _ (stays : SeenMayStay g) (may : Record → Type 0) where
    -- the database that the files behind a link hold
    held : (link : Link D g) (files : Files D) → AreBehind link files → LinkLeaves may link → AreClean g files.log files.db → ∥ ((db : Trees) × HoldsDatabase (image_of g files) db × ∥ HoldsOneOf may db ∥₁) ∥₁
    held (Connected conn) files behind leaves honest =
        let it = behind honest in
        ∥∥₁_map (it.1 (image_of g files) (stays files.log, stays files.db)) (λ x. (x.0, x.1, leaves it.0 x.0 x.2))
    held (Unconnected before) files behind leaves honest =
        let it = (subst (λ (f : Files D). LinkLeaves {g = g} may (Unconnected f)) (sym behind) leaves) honest in
        ∥∥₁_map (it (image_of g files) (stays files.log, stays files.db)) (λ x. (x.0, x.1, ∣ x.2 ∣₁))

    pub still_leaves : (old new : Link D g) → IsReopened old new → StillLeaves may old new
    still_leaves old (Connected conn) it = λ leaves clean db left.
        let again = it.again clean in
        ∥∥₁_elim (held old it.files it.behind leaves again.0) squash₁ (λ x. subst (λ (t : Trees). ∥ HoldsOneOf may t ∥₁) (sym (again.1 x.0 x.1 db left)) x.2)
    still_leaves old (Unconnected files) it = tt

    pub leaves_of : (old : Link D g) (result : Result (StoredSite D g) (Unopened (StoredSite D g))) → IfErr result (λ left. IsReopened old left.keeper.link) → IfErr result (λ left. StillLeaves may old left.keeper.link)
    leaves_of old (Ok site) it = tt
    leaves_of old (Err left) it = still_leaves old left.keeper.link it
