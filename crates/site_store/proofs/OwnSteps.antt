-- The files of a site keep what is its own, from one call to the next.
use Rattle.std.specs.Prelude.{is_some, option_map, IfOk, IfErr}
use Rattle.std.proofs.Common.{◌≡◌, ℕ, suc, Bool, true, false, Option, Some, None, Result, Ok, Err, IfOk, IfErr, MatchResult, inl, inr, refl, sym, ◌∙◌, ap, subst}
use Rattle.std.proofs.lemmas.Bool.{cases_Bool}
use Rattle.sqlite_disk.specs.declared.Disk as disk
use Rattle.sqlite_store.specs.declared.store.FileStore.{FileStore}
use Rattle.sqlite.specs.Held.{Held}
use Rattle.sqlite.specs.Files.{file_state}
use Rattle.sqlite.specs.State.{HasCleanDisk}
use Rattle.site_core.specs.Records.{Record}
use Rattle.site_core.specs.declared.inputs.SiteInput.{SiteInput}
use Rattle.site_core.specs.declared.outcomes.Effects.{Effects}
use Rattle.keeper_core.specs.declared.faults.Keep.{Keep}
use Rattle.keeper_core.specs.declared.faults.Keep.TheVariants.{Old, New}
use Rattle.keeper_core.specs.declared.faults.KeepFault.{KeepFault}
use Rattle.keeper_core.specs.declared.faults.KeepFault.TheVariants.{NoMemory, Refused, Device, Closed, Store}
use Rattle.keeper_core.specs.declared.faults.Unopened.{Unopened}
use Rattle.site_store.specs.declared.kept.Kept.{Kept}
use Rattle.site_store.specs.declared.sites.Link.{Link}
use Rattle.site_store.specs.declared.sites.Link.TheVariants.{Connected, Unconnected}
use Rattle.site_store.specs.declared.sites.StoredSite.{StoredSite}
use Rattle.site_store.specs.Kept.{MayIn, StepsKept, AppliesKept, StopsAfter, StopsKept, KeepsAfter, KeepsStopped}
use Rattle.site_store.specs.Leavings.{LinkLeaves, LeavesSince, LeavesOwnAt, LeavesOwn, KeepsOwnAt, KeepsOwn}
use Rattle.site_store.specs.Reopened.{IsReopened}
use Rattle.site_store.specs.Sites.{shown_at, shown_by, IsKeptAt, IsKeptOver, AppliesAt, AppliesBy, StopsAt, StopsBy, OpensIn, StaysShut}
use Rattle.site_store.proofs.KeptSteps.{shown_open, shown_closed}

-- who shows nothing is seen to
pub shows_nothing : {A : Type 0} (f : A → Record) (seen : Option A) (shown : Option Record) → is_some seen ≡ false → option_map f seen ≡ shown → shown ≡ None
shows_nothing f None shown is e = sym e
shows_nothing f (Some a) shown is e = let x : true ≡ false = is in absurd cc

open_flag : (old new : Kept) → old.is_open ≡ true → new.is_open ≡ old.is_open → new.is_open ≡ true
open_flag old new is same = same ∙ is

module _ {D : Type 0} {g : disk.Ghosts D} where
  -- ---- openings

  -- a site that shows a record which its tables hold
  pub shown_own : (link : Link D g) (kept : Kept) (r : Record) → shown_at link kept ≡ Some r → IsKeptAt link r → KeepsOwnAt kept.is_open link kept
  shown_own (Connected conn) kept r shown keeps =
      let at = shown_open kept r shown in
      subst (λ b. KeepsOwnAt b (Connected conn) kept) (sym at.0) (subst (λ x. IsKeptOver conn x) (sym at.1) keeps)
  shown_own (Unconnected files) kept r shown keeps = absurd keeps

  closed_own : (link : Link D g) (kept : Kept) → shown_at link kept ≡ None → KeepsOwnAt kept.is_open link kept → (failed : ℕ) × LeavesSince failed (MayIn kept) link
  closed_own (Connected conn) kept shown own = subst (λ b. KeepsOwnAt b (Connected conn) kept) (shown_closed kept shown) own
  closed_own (Unconnected files) kept shown own = at kept.is_open own
    where
      at : (b : Bool) → KeepsOwnAt {g = g} b (Unconnected files) kept → (failed : ℕ) × LeavesSince {g = g} failed (MayIn kept) (Unconnected files)
      at true never = absurd never
      at false it = it

  -- the same of what a crash leaves now
  pub shown_leaves : (link : Link D g) (kept : Kept) (r : Record) → shown_at link kept ≡ Some r → IsKeptAt link r → LeavesOwnAt kept.is_open link kept
  shown_leaves (Connected conn) kept r shown keeps =
      let at = shown_open kept r shown in
      subst (λ b. LeavesOwnAt b (Connected conn) kept) (sym at.0) (subst (λ x. IsKeptOver conn x) (sym at.1) keeps)
  shown_leaves (Unconnected files) kept r shown keeps = absurd keeps

  -- while it shows a record, what it keeps of its own a crash leaves
  pub open_leaves : (link : Link D g) (kept : Kept) (r : Record) → shown_at link kept ≡ Some r → KeepsOwnAt kept.is_open link kept → LeavesOwnAt kept.is_open link kept
  open_leaves (Connected conn) kept r shown own =
      let is = (shown_open kept r shown).0 in
      subst (λ b. LeavesOwnAt b (Connected conn) kept) (sym is) (subst (λ b. KeepsOwnAt b (Connected conn) kept) is own)
  open_leaves (Unconnected files) kept r shown own = absurd (let none : None ≡ Some r = shown in cc)

  pub closed_leaves : (link : Link D g) (kept : Kept) → shown_at link kept ≡ None → LeavesOwnAt kept.is_open link kept → LinkLeaves (MayIn kept) link
  closed_leaves (Connected conn) kept shown own = subst (λ b. LeavesOwnAt b (Connected conn) kept) (shown_closed kept shown) own
  closed_leaves (Unconnected files) kept shown own = at kept.is_open own
    where
      at : (b : Bool) → LeavesOwnAt {g = g} b (Unconnected files) kept → LinkLeaves {g = g} (MayIn kept) (Unconnected files)
      at true never = absurd never
      at false it = it

  pub own_again : (old : StoredSite D g) (result : Result (StoredSite D g) (Unopened (StoredSite D g))) → shown_by old ≡ None → IfOk result (OpensIn old.kept) → IfErr result (StaysShut old.kept)
      → IfErr result (λ left. IsReopened old.link left.keeper.link) → KeepsOwn old → MatchResult result KeepsOwn (λ u. KeepsOwn u.keeper)
  own_again old (Ok site) shown opens shut reopened own = shown_own site.link site.kept opens.1 opens.3 opens.4
  own_again old (Err left) shown opens shut reopened own =
      let it = closed_own old.link old.kept shown own in
      subst (λ (k : Kept). KeepsOwnAt k.is_open left.keeper.link k) (sym shut) (suc it.0, (old.link, it.1, reopened))

  -- ---- what a call leaves of an open site

  -- a crash leaves now what it left before openings, of which none failed
  pub leaves_keeps : (is_open : Bool) (link : Link D g) (kept : Kept) → LeavesOwnAt is_open link kept → KeepsOwnAt is_open link kept
  leaves_keeps true link kept own = own
  leaves_keeps false link kept own = (0, own)

  -- open, with the rows of its record
  stays_own : (after : Held (FileStore D g)) (new : Kept) → new.is_open ≡ true → IsKeptOver after new.standing.state → LeavesOwnAt new.is_open (Connected after) new
  stays_own after new is keeps = subst (λ b. LeavesOwnAt b (Connected after) new) (sym is) keeps

  -- closed, with those of one in which it may be opened
  shuts_own : (after : Held (FileStore D g)) (new : Kept) → new.is_open ≡ false → (HasCleanDisk (file_state after) → KeepsStopped new true (file_state after)) → LeavesOwnAt new.is_open (Connected after) new
  shuts_own after new is leaves = subst (λ b. LeavesOwnAt b (Connected after) new) (sym is) (λ clean db may. ∣ leaves clean db may ∣₁)

  stepped : (input : SiteInput) (answer : Result Effects KeepFault) (after : Held (FileStore D g)) (old new : Kept) → old.is_open ≡ true → StepsKept old input answer new → (HasCleanDisk (file_state after) → KeepsAfter new answer (file_state after))
      → LeavesOwnAt new.is_open (Connected after) new
  stepped input (Ok effects) after old new is h keeps = stays_own after new (open_flag old new is (ap (λ (k : Kept). k.is_open) h.2)) keeps
  stepped input (Err (Refused why)) after old new is h keeps = stays_own after new (open_flag old new is (ap (λ (k : Kept). k.is_open) h.1)) keeps
  stepped input (Err NoMemory) after old new is h keeps = stays_own after new (open_flag old new is (ap (λ (k : Kept). k.is_open) h.1)) keeps
  stepped input (Err Device) after old new is h keeps = shuts_own after new (ap (λ (k : Kept). k.is_open) h.1) keeps
  stepped input (Err Store) after old new is h keeps = shuts_own after new (ap (λ (k : Kept). k.is_open) h.1) keeps
  stepped input (Err Closed) after old new is h keeps = absurd h

  rested : (done : Bool) (after : Held (FileStore D g)) (new : Kept) → done ≡ true → new.is_open ≡ false → (HasCleanDisk (file_state after) → KeepsStopped new done (file_state after)) → LeavesOwnAt new.is_open (Connected after) new
  rested done after new is shut keeps = shuts_own after new shut (λ clean. subst (λ b. KeepsStopped new b (file_state after)) is (keeps clean))

  stopped_after : (input : SiteInput) (answer : Result Effects KeepFault) (done : Bool) (after : Held (FileStore D g)) (old mid new : Kept) → old.is_open ≡ true → StepsKept old input answer mid → StopsAfter answer mid done new
      → (HasCleanDisk (file_state after) → KeepsStopped new done (file_state after)) → LeavesOwnAt new.is_open (Connected after) new
  stopped_after input (Ok effects) done after old mid new is h stop keeps = rested done after new stop.0 (ap (λ (k : Kept). k.is_open) stop.1) keeps
  stopped_after input (Err (Refused why)) done after old mid new is h stop keeps = rested done after new stop.0 (ap (λ (k : Kept). k.is_open) stop.1) keeps
  stopped_after input (Err NoMemory) done after old mid new is h stop keeps =
      stays_own after new (open_flag old new is (ap (λ (k : Kept). k.is_open) (stop.1 ∙ h.1))) (λ clean. subst (λ b. KeepsStopped new b (file_state after)) stop.0 (keeps clean))
  stopped_after input (Err Device) done after old mid new is h stop keeps = rested done after new stop.0 (ap (λ (k : Kept). k.is_open) (stop.1 ∙ h.1)) keeps
  stopped_after input (Err Store) done after old mid new is h stop keeps = rested done after new stop.0 (ap (λ (k : Kept). k.is_open) (stop.1 ∙ h.1)) keeps
  stopped_after input (Err Closed) done after old mid new is h stop keeps = absurd h

  stopped_open : (input : SiteInput) (keep : Keep) (done : Bool) (after : Held (FileStore D g)) (old new : Kept) → old.is_open ≡ true → StopsKept true old input keep done new
      → (HasCleanDisk (file_state after) → KeepsStopped new done (file_state after)) → LeavesOwnAt new.is_open (Connected after) new
  stopped_open input Old done after old new is h keeps = rested done after new h.0 (ap (λ (k : Kept). k.is_open) h.1) keeps
  stopped_open input New done after old new is h keeps = stopped_after input h.0 done after old h.1 new is h.2 h.3 keeps

  -- ---- steps and stops, of an open site or a closed one

  -- of whatever is said of a site such that of an open one it is that its tables hold its record, and that what a call
  -- leaves of it suffices
  module _ (P : Bool → Link D g → Kept → Type 0) (holds : (link : Link D g) (kept : Kept) → P true link kept → IsKeptAt link kept.standing.state)
      (gives : (is_open : Bool) (link : Link D g) (kept : Kept) → LeavesOwnAt is_open link kept → P is_open link kept) where
    same_as : (before after : Link D g) (old new : Kept) → new ≡ old → after ≡ before → P old.is_open before old → P new.is_open after new
    same_as before after old new kept link own = subst (λ (k : Kept). P k.is_open after k) (sym kept) (subst (λ (l : Link D g). P old.is_open l old) (sym link) own)

    applied_at : (input : SiteInput) (answer : Result Effects KeepFault) (before after : Link D g) (old new : Kept) → AppliesAt before old input answer after new → P old.is_open before old → P new.is_open after new
    applied_at input answer (Connected before) (Connected after) old new h own = elim (cases_Bool old.is_open) [
      | inl is ↦
          let keeps = holds (Connected before) old (subst (λ b. P b (Connected before) old) is own) in
          gives new.is_open (Connected after) new (stepped input answer after old new is (subst (λ b. AppliesKept b old input answer new) is h.0) (h.2 keeps))
      | inr shut ↦
          let it = subst (λ b. AppliesKept b old input answer new) shut h.0 in
          same_as (Connected before) (Connected after) old new it.1 (ap (λ c. Connected c) (h.1 (rw it.0 refl))) own
    ]
    applied_at input answer (Connected before) (Unconnected after) old new h own = absurd h
    applied_at input answer (Unconnected before) (Connected after) old new h own = absurd h
    applied_at input answer (Unconnected before) (Unconnected after) old new h own = same_as (Unconnected before) (Unconnected after) old new h.1 (ap (λ f. Unconnected f) h.2) own

    stopped_at : (input : SiteInput) (keep : Keep) (done : Bool) (before after : Link D g) (old new : Kept) → StopsAt before old input keep done after new → P old.is_open before old → P new.is_open after new
    stopped_at input keep done (Connected before) (Connected after) old new h own = elim (cases_Bool old.is_open) [
      | inl is ↦
          let keeps = holds (Connected before) old (subst (λ b. P b (Connected before) old) is own) in
          gives new.is_open (Connected after) new (stopped_open input keep done after old new is (subst (λ b. StopsKept b old input keep done new) is h.0) (h.2 is keeps))
      | inr shut ↦
          let it = subst (λ b. StopsKept b old input keep done new) shut h.0 in
          same_as (Connected before) (Connected after) old new it.1 (ap (λ c. Connected c) (h.1 shut)) own
    ]
    stopped_at input keep done (Connected before) (Unconnected after) old new h own = absurd h
    stopped_at input keep done (Unconnected before) (Connected after) old new h own = absurd h
    stopped_at input keep done (Unconnected before) (Unconnected after) old new h own = same_as (Unconnected before) (Unconnected after) old new h.1 (ap (λ f. Unconnected f) h.2) own

  -- a step
  pub applied : (input : SiteInput) (answer : Result Effects KeepFault) (old new : StoredSite D g) → AppliesBy old input answer new → KeepsOwn old → KeepsOwn new
  applied input answer old new h own = applied_at KeepsOwnAt (λ link kept it. it) leaves_keeps input answer old.link new.link old.kept new.kept h.0 own

  pub applied_leaves : (input : SiteInput) (answer : Result Effects KeepFault) (old new : StoredSite D g) → AppliesBy old input answer new → LeavesOwn old → LeavesOwn new
  applied_leaves input answer old new h own = applied_at LeavesOwnAt (λ link kept it. it) (λ is_open link kept it. it) input answer old.link new.link old.kept new.kept h.0 own

  -- a stop
  pub stopped : (input : SiteInput) (keep : Keep) (done : Bool) (old new : StoredSite D g) → StopsBy old input keep done new → KeepsOwn old → KeepsOwn new
  stopped input keep done old new h own = stopped_at KeepsOwnAt (λ link kept it. it) leaves_keeps input keep done old.link new.link old.kept new.kept h.0 own

  pub stopped_leaves : (input : SiteInput) (keep : Keep) (done : Bool) (old new : StoredSite D g) → StopsBy old input keep done new → LeavesOwn old → LeavesOwn new
  stopped_leaves input keep done old new h own = stopped_at LeavesOwnAt (λ link kept it. it) (λ is_open link kept it. it) input keep done old.link new.link old.kept new.kept h.0 own
