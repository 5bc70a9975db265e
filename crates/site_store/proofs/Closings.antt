-- What a closing leaves is what was left before.
use Rattle.std.proofs.Common.{◌≡◌, true, false, Result, Ok, Err, Some, None, IfOk, IfErr, refl, sym, ap, subst, inl, inr}
use Rattle.std.proofs.Math.Logic.{∥∥₁_elim, ∥∥₁_map}
use Rattle.sqlite_disk.specs.declared.Disk as disk
use Rattle.sqlite_disk.specs.declared.Files.{Files}
use Rattle.sqlite_wal.specs.Reads.{AreClean}
use Rattle.sqlite_store.specs.declared.store.FileStore.{FileStore}
use Rattle.sqlite.specs.Closing.{IsCopied}
use Rattle.sqlite.specs.Files.{file_state}
use Rattle.sqlite.specs.Held.{Held}
use Rattle.site_core.specs.Records.{Record}
use Rattle.site_store.specs.Closed.{ClosesAs, IsShut, IsShutAt, LeavesIts}
use Rattle.site_store.specs.Crashes.{StandsFor}
use Rattle.site_store.specs.Kept.{MayIn}
use Rattle.site_store.specs.Leavings.{HoldsOneOf, LeavesOwn, LeavesOwnAt, LinkLeaves}
use Rattle.site_store.specs.Reopened.{AreBehind, LeaveOnly}
use Rattle.site_store.specs.Sites.{shown_by}
use Rattle.site_store.specs.declared.kept.Kept.{Kept}
use Rattle.site_store.specs.declared.sites.Link.{Link}
use Rattle.site_store.specs.declared.sites.Link.TheVariants.{Connected, Unconnected}
use Rattle.site_store.specs.declared.sites.StoredSite.{StoredSite}

module _ {D : Type 0} {g : disk.Ghosts D} where
  -- one that is open leaves the record that it shows
  open_leaves : (site : StoredSite D g) (conn : Held (FileStore D g)) (files : Files D) → site.link ≡ Connected conn → site.kept.is_open ≡ true → (AreClean g files.log files.db → IsCopied conn files)
      → LeavesOwn site → LeavesIts site files
  open_leaves site conn files link opened copied own clean =
      let it = copied clean in
      let kept = (subst (λ (l : Link D g). LeavesOwnAt true l site.kept) link (subst (λ b. LeavesOwnAt b site.link site.kept) opened own)) it.was_clean in
      let shows : shown_by site ≡ Some site.kept.standing.state = rw link (rw opened refl) in
      λ image may. ∥∥₁_map (it.left image may).both (λ holds. ((file_state conn).committed.trees, holds, (site.kept.standing.state, inl shows, kept.holds)))

  -- one that a failure closed leaves one of the records in which it may be opened
  pub shut_leaves : (site : StoredSite D g) (files : Files D) → site.kept.is_open ≡ false → AreBehind site.link files → LeavesOwn site → LeavesIts site files
  shut_leaves site files shut behind own clean =
      let leaves : LinkLeaves (MayIn site.kept) site.link = subst (λ b. LeavesOwnAt b site.link site.kept) shut own in
      behind_leaves site.link behind leaves
    where
      none : (link : Link D g) (kept : Kept) → kept.is_open ≡ false → shown_by (record site { link = link; kept = kept }) ≡ None
      none (Connected conn) kept is = rw is refl
      none (Unconnected before) kept is = refl

      stands : (r : Record) → MayIn site.kept r → StandsFor site r
      stands r may = inr (none site.link site.kept shut, may)

      one_of : (db : _) → HoldsOneOf (MayIn site.kept) db → HoldsOneOf (StandsFor site) db
      one_of db it = (it.0, stands it.0 it.1, it.2)

      behind_leaves : (link : Link D g) → AreBehind link files → LinkLeaves (MayIn site.kept) link → LeaveOnly g (HoldsOneOf (StandsFor site)) files
      behind_leaves (Connected conn) behind leaves =
          let it = behind clean in
          λ image may. ∥∥₁_elim (it.1 image may) squash₁ (λ x. ∥∥₁_map (leaves it.0 x.0 x.2) (λ one. (x.0, x.1, one_of x.0 one)))
      behind_leaves (Unconnected before) behind leaves =
          λ image may. ∥∥₁_map ((subst (λ (f : Files D). LinkLeaves {g = g} (MayIn site.kept) (Unconnected f)) (sym behind) leaves) clean image may) (λ x. (x.0, x.1, one_of x.0 x.2))

  -- without a connection the files are as they were
  pub unconnected_leaves : (site : StoredSite D g) (files : Files D) → site.link ≡ Unconnected files → LeavesOwn site → LeavesIts site files
  unconnected_leaves site files link own = elim site.kept.is_open as (λ b. site.kept.is_open ≡ b → LeavesIts site files) [
    | true ↦ λ opened. absurd (subst (λ (l : Link D g). LeavesOwnAt true l site.kept) link (subst (λ b. LeavesOwnAt b site.link site.kept) opened own))
    | false ↦ λ shut. shut_leaves site files shut (subst (λ (l : Link D g). AreBehind l files) (sym link) refl) own
  ] refl

  pub copied_closes : (site : StoredSite D g) (conn : Held (FileStore D g)) (result : Result (Files D) (Files D)) → site.link ≡ Connected conn → site.kept.is_open ≡ true
      → IfOk result (λ files. AreClean g files.log files.db → IsCopied conn files) → IfErr result (IsShut conn) → ClosesAs site result
  copied_closes site conn (Ok files) link opened copied shut = open_leaves site conn files link opened copied
  copied_closes site conn (Err files) link opened copied shut = subst (λ (l : Link D g). IsShutAt l files) (sym link) shut
