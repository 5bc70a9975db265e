-- What each call of a site leaves in a crash, and in which records that may be opened.
use Rattle.std.proofs.Common.{◌≡◌, ◌⊎◌, ℕ, List, Bool, true, false, Option, Some, None, Result, Ok, Err, MatchResult, inl, inr, sym, ◌∙◌, subst, arith, ⊎_elim}
use Rattle.std.proofs.lemmas.Option.{same_Some}
use Rattle.std.proofs.Math.Logic.{∥∥₁_map}
use Rattle.sqlite_disk.specs.declared.Disk as disk
use Rattle.sqlite_disk.specs.declared.Files.{Files}
use Rattle.sqlite_wal.proofs.LogLemmas.{SeenMayStay}
use Rattle.sqlite_store.specs.declared.store.FileStore.{FileStore}
use Rattle.sqlite.specs.Held.{Held}
use Rattle.site_core.specs.Records.{Record}
use Rattle.site_core.specs.declared.inputs.SiteInput.{SiteInput}
use Rattle.site_core.specs.declared.outcomes.Effects.{Effects}
use Rattle.site_core.specs.declared.outcomes.Refusal.{Refusal}
use Rattle.keeper_core.specs.declared.faults.Keep.{Keep}
use Rattle.keeper_core.specs.declared.faults.Keep.TheVariants.{Old, New}
use Rattle.keeper_core.specs.declared.faults.KeepFault.{KeepFault}
use Rattle.keeper_core.specs.declared.faults.KeepFault.TheVariants as faults
use Rattle.keeper_core.specs.Keeping.{Applies, Stops, IsAfter, IsRefusedFor, MayBeOldOrNew}
use Rattle.site_store.specs.declared.kept.Kept.{Kept}
use Rattle.site_store.specs.declared.opening.OpenFault.{OpenFault}
use Rattle.site_store.specs.declared.sites.Link.{Link}
use Rattle.site_store.specs.declared.sites.Link.TheVariants.{Connected, Unconnected}
use Rattle.site_store.specs.declared.sites.StoredSite.{StoredSite}
use Rattle.site_store.specs.Crashes.{AreLeftBehind, AreLeftOrMigrated, AreAmong, HasConnection, Reopening, CallsLeaveOwn, CallsKeepToOldOrNew}
use Rattle.site_store.specs.Kept.{MayIn}
use Rattle.site_store.specs.Leavings.{LinkLeaves, LeavesOwnAt, LeavesOwn}
use Rattle.site_store.specs.Opened.{IsNotOpened}
use Rattle.site_store.specs.Reopened.{IsReopened}
use Rattle.site_store.specs.Sites.{shown_by, ReopensBy}
use Rattle.site_store.proofs.OwnSteps.{shown_leaves, open_leaves, closed_leaves, leaves_keeps, applied_leaves, stopped_leaves}
use Rattle.site_store.proofs.Reopenings.{still_leaves}
use Rattle.site_store.proofs.SiteSteps.{open_by, stop_open_by, stays_closed}

-- ---- the old record or the new one

-- what shows a record, or may be opened in one
abbrev Stands : Option Record → (Record → Type 0) → Record → Type 0
Stands shown may r = (shown ≡ Some r) ⊎ ((shown ≡ None) × may r)

shows : (P : Record → Type 0) (may : Record → Type 0) (s r : Record) → Stands (Some s) may r → P s → P r
shows P may s r (inl e) it = subst P (same_Some s r e) it
shows P may s r (inr none) it = absurd (let f : Some s ≡ None = none.0 in cc)

may_be : (may : Record → Type 0) (r : Record) → Stands None may r → may r
may_be may r (inl e) = absurd (let f : None ≡ Some r = e in cc)
may_be may r (inr it) = it.1

-- what shows a record stands for that alone
one_shown : (shown : Option Record) (may : Record → Type 0) (s r : Record) → shown ≡ Some s → Stands shown may r → s ≡ r
one_shown shown may s r is (inl e) = same_Some s r (sym is ∙ e)
one_shown shown may s r is (inr none) = absurd (let f : None ≡ Some s = sym none.0 ∙ is in cc)

abbrev OldOrNew : Record → SiteInput → Record → Type 0
OldOrNew old input r = (r ≡ old) ⊎ IsAfter old input r

applied_in : (old : Record) (input : SiteInput) (answer : Result Effects KeepFault) (shown : Option Record) (may : Record → Type 0) → Applies old input answer shown may → MayBeOldOrNew old input (Stands shown may)
applied_in old input (Ok effects) (Some s) may h r stands = shows (OldOrNew old input) may s r stands (inr (effects, h))
applied_in old input (Ok effects) None may h r stands = absurd h
applied_in old input (Err (faults.Refused why)) (Some s) may h r stands = shows (OldOrNew old input) may s r stands (inl h.1)
applied_in old input (Err (faults.Refused why)) None may h r stands = absurd h
applied_in old input (Err faults.NoMemory) (Some s) may h r stands = shows (OldOrNew old input) may s r stands (inl h)
applied_in old input (Err faults.NoMemory) None may h r stands = absurd h
applied_in old input (Err faults.Device) (Some s) may h r stands = absurd h
applied_in old input (Err faults.Device) None may h r stands = h r (may_be may r stands)
applied_in old input (Err faults.Store) (Some s) may h r stands = absurd h
applied_in old input (Err faults.Store) None may h r stands = h r (may_be may r stands)
applied_in old input (Err faults.Closed) (Some s) may h r stands = absurd h
applied_in old input (Err faults.Closed) None may h r stands = absurd h

stopped_in : (old : Record) (input : SiteInput) (keep : Keep) (failed : Type 0) (done : Bool) (shown : Option Record) (may : Record → Type 0) → Stops old input keep failed done shown may → MayBeOldOrNew old input (Stands shown may)
stopped_in old input Old failed true (Some s) may h r stands = absurd h
stopped_in old input Old failed true None may h r stands = inl (h r (may_be may r stands))
stopped_in old input New failed true (Some s) may h r stands = absurd h
stopped_in old input New failed true None may h r stands =
    ⊎_elim (λ a. inr a) (λ (b : (r ≡ old) × (((why : Refusal) × IsRefusedFor old input why) ⊎ failed)). inl b.0) (h r (may_be may r stands))
stopped_in old input Old failed false (Some s) may h r stands = shows (OldOrNew old input) may s r stands (inl h)
stopped_in old input Old failed false None may h r stands = absurd h
stopped_in old input New failed false (Some s) may h r stands = shows (OldOrNew old input) may s r stands (inl h)
stopped_in old input New failed false None may h r stands = absurd h

module _ {D : Type 0} {g : disk.Ghosts D} where
  -- ---- from call to call

  -- what a failed opening leaves was left before, or was committed by it
  refused_leaves : (before after : Held (FileStore D g)) (name : List ℕ) (fault : OpenFault) → IsNotOpened before name after fault
      → (files : Files D) → AreLeftBehind (Connected after) files → AreLeftOrMigrated before fault files
  refused_leaves before after name fault it files left =
      (omega (arith, it.crash.clean, left.0), ∥∥₁_map left.1 (λ x. (x.0, it.crash.crash left.0 x.0 x.1, x.2)))

  module _ (stays : SeenMayStay g) where
    reopened_at : (old link : Link D g) (kept : Kept) → IsReopened old link → LinkLeaves (MayIn kept) old → HasConnection link → LinkLeaves (MayIn kept) link
    reopened_at old (Connected conn) kept it leaves has = still_leaves stays (MayIn kept) old (Connected conn) it leaves
    reopened_at old (Unconnected files) kept it leaves has = absurd has

    reopened_leaves : (old : StoredSite D g) (result : Reopening g) → shown_by old ≡ None → ReopensBy old result → LeavesOwn old
        → MatchResult result LeavesOwn (λ left. HasConnection left.keeper.link → LeavesOwn left.keeper)
    reopened_leaves old (Ok site) shown opens own = let it = opens shown in shown_leaves site.link site.kept it.1 it.3 it.4
    reopened_leaves old (Err left) shown it own = λ has.
        subst (λ (k : Kept). LeavesOwnAt k.is_open left.keeper.link k) (sym it.0) (reopened_at old.link left.keeper.link old.kept it.2 (closed_leaves old.link old.kept shown own) has)

    pub calls_leave : CallsLeaveOwn g
    calls_leave = record {
      shown = λ site r shown own. open_leaves site.link site.kept r shown own;
      kept = λ site own. leaves_keeps site.kept.is_open site.link site.kept own;
      applied = λ old new input answer. applied_leaves input answer old new;
      stopped = λ old new input keep done. stopped_leaves input keep done old new;
      reopened = reopened_leaves;
      refused = refused_leaves;
    }

  reopened_in : (old : StoredSite D g) (result : Reopening g) → shown_by old ≡ None → ReopensBy old result
      → MatchResult result (λ site. AreAmong site old) (λ left. AreAmong left.keeper old)
  reopened_in old (Ok site) shown opens = λ r stands.
      let it = opens shown in
      inr (shown, subst (MayIn old.kept) (one_shown (shown_by site) (MayIn site.kept) it.1 r it.3 stands) it.2)
  reopened_in old (Err left) shown it = λ r stands.
      let closed = stays_closed old left it.0 in
      inr (shown, closed.1 r (may_be (MayIn left.keeper.kept) r (subst (λ o. Stands o (MayIn left.keeper.kept) r) closed.0 stands)))

  pub calls_keep : CallsKeepToOldOrNew g
  calls_keep = record {
    applied = λ old new input answer r shown h. applied_in r input answer (shown_by new) (MayIn new.kept) (open_by r input answer old new shown h);
    stopped = λ old new input keep done r shown h. stopped_in r input keep _ done (shown_by new) (MayIn new.kept) (stop_open_by r input keep done old new shown h);
    reopened = reopened_in;
  }
