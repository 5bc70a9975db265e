-- A site is opened after a crash in one of its records.
use Rattle.std.specs.Prelude.{IfOk, IfErr}
use Rattle.std.proofs.Common.{◌≡◌, ◌⊎◌, List, ℕ, true, false, Some, None, Result, Ok, Err, inl, inr, refl, sym, subst, arith}
use Rattle.std.proofs.lemmas.Bool.{cases_Bool}
use Rattle.std.proofs.Math.Logic.{∥∥₁_elim, ∥∥₁_map}
use Rattle.sqlite_disk.specs.declared.Disk as disk
use Rattle.sqlite_disk.specs.declared.Files.{Files}
use Rattle.sqlite_store.specs.declared.store.FileStore.{FileStore}
use Rattle.sqlite.specs.Tree.{Trees}
use Rattle.sqlite.specs.Held.{Held}
use Rattle.sqlite.specs.Files.{HoldsDatabase, image_of, file_state}
use Rattle.sqlite.specs.State.{HasCleanDisk}
use Rattle.site_core.specs.Records.{Record}
use Rattle.site_rows.specs.declared.tables.Version.TheVariants.{Second}
use Rattle.site_store.specs.declared.kept.Kept.{Kept}
use Rattle.site_store.specs.declared.opening.OpenFault.{OpenFault}
use Rattle.site_store.specs.declared.opening.OpenFault.TheVariants.{NoMemory, NotAStore, Version as OpenVersion, OtherSite, BadRow, Device, Store}
use Rattle.site_store.specs.declared.opening.Unfound.{Unfound}
use Rattle.site_store.specs.declared.sites.Link.{Link}
use Rattle.site_store.specs.declared.sites.Link.TheVariants.{Connected, Unconnected}
use Rattle.site_store.specs.declared.sites.StoredSite.{StoredSite}
use Rattle.site_store.specs.Crashes.{AreLeftBehind, IsAfterCrash, StandsFor, AreNamed, OpensAfter}
use Rattle.site_store.specs.Kept.{MayIn}
use Rattle.site_store.specs.Leavings.{LinkLeaves, LeavesOwnAt, LeavesOwn}
use Rattle.site_store.specs.Opened.{MayBeFound, IsOfMachine, ReadsAt, MigratesAt, IsCleanAt, IsOpenedAs, IsNotOpened, IsLeftOf, FindsLeft}
use Rattle.site_store.specs.Sites.{shown_at, IsKeptOver}
use Rattle.site_store.specs.StepWritten.{HoldsRecord}
use Rattle.site_store.proofs.Findings.{no_limit}
use Rattle.site_store.proofs.KeptSteps.{shown_open, opened, closed_shows}
use Rattle.site_store.proofs.OwnSteps.{shown_leaves}

-- ---- what the machine alone prevents

of_machine : {D : Type 0} {g : disk.Ghosts D} (conn : Held (FileStore D g)) (fault : OpenFault) → conn.step_limit ≡ None → ∥ IsOfMachine (file_state conn) fault ∥₁ → (fault ≡ NoMemory) ⊎ (fault ≡ Device)
of_machine conn NoMemory unlimited is = inl refl
of_machine conn Device unlimited is = inr refl
of_machine conn Store unlimited is = absurd (∥∥₁_elim is (λ a b. absurd a) (λ limit. no_limit conn.step_limit unlimited limit))
of_machine conn NotAStore unlimited is = absurd (∥∥₁_elim is (λ a b. absurd a) (λ none. none))
of_machine conn (OpenVersion found) unlimited is = absurd (∥∥₁_elim is (λ a b. absurd a) (λ none. none))
of_machine conn (OtherSite found) unlimited is = absurd (∥∥₁_elim is (λ a b. absurd a) (λ none. none))
of_machine conn (BadRow bad) unlimited is = absurd (∥∥₁_elim is (λ a b. absurd a) (λ none. none))

module _ {D : Type 0} {g : disk.Ghosts D} where
  -- ---- what the files hold after a crash

  abbrev StandsAt : Link D g → Kept → Record → Type 0
  StandsAt link kept r = (shown_at link kept ≡ Some r) ⊎ ((shown_at link kept ≡ None) × MayIn kept r)

  -- a database with the rows of one of the records
  abbrev HoldStanding : Link D g → Kept → Files D → Type 0
  HoldStanding link kept files = ∥ ((db : Trees) × HoldsDatabase (image_of g files) db × (r : Record) × StandsAt link kept r × HoldsRecord r db) ∥₁

  hold_shown : (conn : Held (FileStore D g)) (kept : Kept) (files : Files D) → kept.is_open ≡ true → IsKeptOver conn kept.standing.state → AreLeftBehind (Connected conn) files → HoldStanding (Connected conn) kept files
  hold_shown conn kept files is keeps left = ∥∥₁_map left.1 (λ x. (x.0, x.2, kept.standing.state, inl (opened kept is), (keeps left.0).crash x.0 x.1))

  hold_one : (link : Link D g) (kept : Kept) (files : Files D) → kept.is_open ≡ false → LinkLeaves (MayIn kept) link → AreLeftBehind link files → HoldStanding link kept files
  hold_one (Connected conn) kept files shut leaves left =
      ∥∥₁_elim left.1 squash₁ (λ x. ∥∥₁_map (leaves left.0 x.0 x.1) (λ y. (x.0, x.2, y.0, inr (closed_shows kept shut, y.1), y.2)))
  hold_one (Unconnected before) kept files shut leaves left =
      ∥∥₁_map (leaves left.0 (image_of g files) left.1) (λ x. (x.0, x.1, x.2.0, inr (refl, x.2.1), x.2.2))

  hold : (link : Link D g) (kept : Kept) (files : Files D) → LeavesOwnAt kept.is_open link kept → AreLeftBehind link files → HoldStanding link kept files
  hold link kept files own left = elim (cases_Bool kept.is_open) [
    | inl is ↦ open_hold link (subst (λ b. LeavesOwnAt b link kept) is own) left is
    | inr shut ↦ hold_one link kept files shut (subst (λ b. LeavesOwnAt b link kept) shut own) left
  ]
    where
      open_hold : (link : Link D g) → LeavesOwnAt true link kept → AreLeftBehind link files → kept.is_open ≡ true → HoldStanding link kept files
      open_hold (Connected conn) keeps left is = hold_shown conn kept files is keeps left
      open_hold (Unconnected before) never left is = absurd never

  -- ---- what an opening finds of them

  -- the records that it stands for, as those which a closed one may be opened in
  pub stands_may : (link : Link D g) (kept : Kept) (r : Record) → StandsAt link kept r → MayIn kept r
  stands_may (Connected conn) kept r (inl shown) = inl (sym (shown_open kept r shown).1)
  stands_may (Unconnected files) kept r (inl shown) = absurd (let none : None ≡ Some r = shown in cc)
  stands_may link kept r (inr may) = may.1

  is_left : (site : StoredSite D g) (conn : Held (FileStore D g)) (name : List ℕ) → ((r : Record) → MayIn site.kept r → MayBeFound r) → LeavesOwn site → AreNamed site name → IsAfterCrash site conn → HasCleanDisk (file_state conn)
      → ∥ ((r : Record) × StandsFor site r × IsLeftOf conn name Second r) ∥₁
  is_left site conn name found own named after clean =
      let made = after.2 in
      ∥∥₁_map (hold site.link site.kept after.0 own after.1) (λ x. (
        x.2,
        x.3,
        record {
          opens = made.opens clean;
          holds = subst (HoldsRecord x.2) (sym ((made.finds clean).holds x.0 x.1)) x.4;
          site = found x.2 (stands_may site.link site.kept x.2 x.3);
          named = named x.2 x.3;
        },
      ))

  reads_clean : (conn : Held (FileStore D g)) (name : List ℕ) (again : StoredSite D g) → IsOpenedAs conn name again → IsCleanAt again.link → HasCleanDisk (file_state conn)
  reads_clean conn name again it clean = at again.link it.reads clean
    where
      at : (link : Link D g) → ReadsAt conn it.shown link ⊎ MigratesAt conn it.shown link → IsCleanAt link → HasCleanDisk (file_state conn)
      at (Connected after) (inl reads) clean = omega (arith, reads.0.clean, clean)
      at (Connected after) (inr migrates) clean = omega (arith, migrates.0.clean, clean)
      at (Unconnected files) reads clean = absurd clean

  pub opens_after : (site : StoredSite D g) (conn : Held (FileStore D g)) (name : List ℕ) (result : Result (StoredSite D g) (Unfound D g)) → ((r : Record) → MayIn site.kept r → MayBeFound r)
      → IfOk result (IsOpenedAs conn name) → IfErr result (λ left. IsNotOpened conn name left.conn left.fault) → FindsLeft conn name result → LeavesOwn site → AreNamed site name → IsAfterCrash site conn → OpensAfter site result
  opens_after site conn name (Ok again) found is refused finds own named after = (
    λ clean. ∥∥₁_map (is_left site conn name found own named after (reads_clean conn name again is clean)) (λ x. (x.0, x.1, finds clean Second x.0 x.2)),
    shown_leaves again.link again.kept is.shown is.shows (is.kept (λ clean. (after.2.opens clean, image_of g after.0, (after.2.finds clean).reads))),
  )
  opens_after site conn name (Err left) found is refused finds own named after = λ clean.
      let was : HasCleanDisk (file_state conn) = omega (arith, refused.crash.clean, clean) in
      of_machine conn left.fault after.2.unlimited (∥∥₁_map (is_left site conn name found own named after was) (λ x. finds clean Second x.0 x.2))
