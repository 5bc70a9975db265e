-- The steps and stops of a site that files keep are those of a keeper.
use Rattle.std.specs.Prelude.{is_some, option_map, IfOk, IfErr, MatchResult}
use Rattle.std.proofs.Common.{◌≡◌, ◌≤◌, Bool, true, false, Option, Some, None, Result, Ok, Err, IsTrue, refl, ◌∙◌, ap, subst, arith}
use Rattle.sqlite_disk.specs.declared.Disk as disk
use Rattle.sqlite_store.specs.declared.store.FileStore.{FileStore}
use Rattle.sqlite.specs.Held.{Held}
use Rattle.sqlite.specs.Files.{file_state}
use Rattle.sqlite.specs.State.{HasCleanDisk}
use Rattle.site_core.specs.Records.{Record}
use Rattle.site_core.specs.Steps.{CopiesRecord}
use Rattle.site_core.specs.declared.inputs.SiteInput.{SiteInput}
use Rattle.site_core.specs.declared.outcomes.Effects.{Effects}
use Rattle.keeper_core.specs.declared.faults.Keep.{Keep}
use Rattle.keeper_core.specs.declared.faults.KeepFault.{KeepFault}
use Rattle.keeper_core.specs.declared.faults.KeepFault.TheVariants.{NoMemory, Device, Store, Closed}
use Rattle.keeper_core.specs.declared.faults.Unopened.{Unopened}
use Rattle.keeper_core.specs.Keeping.{Applies, Stops, Rises, StaysClosed}
use Rattle.site_store.specs.declared.kept.Kept.{Kept}
use Rattle.site_store.specs.declared.sites.Link.{Link}
use Rattle.site_store.specs.declared.sites.Link.TheVariants.{Connected, Unconnected}
use Rattle.site_store.specs.declared.sites.StoredSite.{StoredSite}
use Rattle.site_store.specs.Faults.{IsCaused}
use Rattle.site_store.specs.Kept.{HasFailed, MayIn, AppliesKept, StopsKept, KeepsAfter, KeepsStopped, is_idle}
use Rattle.site_store.specs.Standing.{Standing, StandsIn}
use Rattle.site_store.specs.StepWritten.{Keeps}
use Rattle.site_store.specs.Sites.{shown_at, shown_by, MayBy, AppliesAt, AppliesBy, StopsAt, StopsBy, OpensIn, StaysShut}
use Rattle.site_store.proofs.KeptSteps.{Fails, applies_open, applies_memory, applies_closed, applies_count, applies_cause, applies_store, stops_open, stops_closed, stops_count, closed_shows, shown_closed, fault_rises, fault_counts}

-- who shows a record is seen to
pub shows_none : {A : Type 0} (f : A → Record) (seen : Option A) (r : Record) → is_some seen ≡ false → option_map f seen ≡ Some r → ⊥
shows_none f None r is e = let x : None ≡ Some r = e in absurd cc
shows_none f (Some a) r is e = let x : true ≡ false = is in absurd cc

module _ {D : Type 0} {g : disk.Ghosts D} where
  open_at : (r : Record) (input : SiteInput) (answer : Result Effects KeepFault) (before after : Link D g) (old new : Kept) → shown_at before old ≡ Some r → AppliesAt before old input answer after new
      → Applies r input answer (shown_at after new) (MayIn new)
  open_at r input answer (Connected before) (Connected after) old new shown h = applies_open r input answer old new shown h.0
  open_at r input answer (Connected before) (Unconnected after) old new shown h = absurd h
  open_at r input answer (Unconnected before) after old new shown h = absurd (let f : None ≡ Some r = shown in cc)

  -- a step, where a record is shown
  pub open_by : (r : Record) (input : SiteInput) (answer : Result Effects KeepFault) (old new : StoredSite D g) → shown_by old ≡ Some r → AppliesBy old input answer new → Applies r input answer (shown_by new) (MayBy new)
  open_by r input answer old new shown h = open_at r input answer old.link new.link old.kept new.kept shown h.0

  memory_at : (r : Record) (input : SiteInput) (before after : Link D g) (old new : Kept) → shown_at before old ≡ Some r → AppliesAt before old input (Err NoMemory) after new → CopiesRecord r input
  memory_at r input (Connected before) (Connected after) old new shown h = applies_memory r input old new shown h.0
  memory_at r input (Connected before) (Unconnected after) old new shown h = absurd h
  memory_at r input (Unconnected before) after old new shown h = absurd (let f : None ≡ Some r = shown in cc)

  pub memory_by : (r : Record) (input : SiteInput) (answer : Result Effects KeepFault) (old new : StoredSite D g) → shown_by old ≡ Some r → AppliesBy old input answer new → answer ≡ Err NoMemory → CopiesRecord r input
  memory_by r input answer old new shown h is = memory_at r input old.link new.link old.kept new.kept shown (subst (λ a. AppliesAt old.link old.kept input a new.link new.kept) is h.0)

  closed_at : (input : SiteInput) (answer : Result Effects KeepFault) (before after : Link D g) (old new : Kept) → shown_at before old ≡ None → AppliesAt before old input answer after new
      → (answer ≡ Err Closed) × (new ≡ old) × (after ≡ before)
  closed_at input answer (Connected before) (Connected after) old new shown h =
      let it = applies_closed input answer old new shown h.0 in
      (it.0, it.1, ap (λ c. Connected c) (h.1 (rw it.0 refl)))
  closed_at input answer (Connected before) (Unconnected after) old new shown h = absurd h
  closed_at input answer (Unconnected before) (Connected after) old new shown h = absurd h
  closed_at input answer (Unconnected before) (Unconnected after) old new shown h = (h.0, h.1, ap (λ f. Unconnected f) h.2)

  same_site : (old new : StoredSite D g) → new.kept ≡ old.kept → new.link ≡ old.link → new.options ≡ old.options → new ≡ old
  same_site old new a b c =
      ap (λ (k : Kept). record new { kept = k }) a
      ∙ ap (λ (l : Link D g). record new { kept = old.kept; link = l }) b
      ∙ ap (λ o. record new { kept = old.kept; link = old.link; options = o }) c

  -- and where none is
  pub closed_by : (input : SiteInput) (answer : Result Effects KeepFault) (old new : StoredSite D g) → shown_by old ≡ None → AppliesBy old input answer new → (answer ≡ Err Closed) × (new ≡ old)
  closed_by input answer old new shown h =
      let it = closed_at input answer old.link new.link old.kept new.kept shown h.0 in
      (it.0, same_site old new it.1 it.2 h.1)

  cause_at : (input : SiteInput) (before after : Link D g) (old new : Kept) → AppliesAt before old input (Err Device) after new → Rises old.failures new.failures
  cause_at input (Connected before) (Connected after) old new h = applies_cause input old new h.0
  cause_at input (Connected before) (Unconnected after) old new h = absurd h
  cause_at input (Unconnected before) (Connected after) old new h = absurd h
  cause_at input (Unconnected before) (Unconnected after) old new h = absurd (let f : Err Device ≡ Err Closed = h.0 in cc)

  pub cause_by : (input : SiteInput) (answer : Result Effects KeepFault) (old new : StoredSite D g) → AppliesBy old input answer new → answer ≡ Err Device → Rises old.kept.failures new.kept.failures
  cause_by input answer old new h is = cause_at input old.link new.link old.kept new.kept (subst (λ a. AppliesAt old.link old.kept input a new.link new.kept) is h.0)

  store_at : (input : SiteInput) (before after : Link D g) (old new : Kept) → AppliesAt before old input (Err Store) after new → HasFailed new
  store_at input (Connected before) (Connected after) old new h = applies_store input old new h.0
  store_at input (Connected before) (Unconnected after) old new h = absurd h
  store_at input (Unconnected before) (Connected after) old new h = absurd h
  store_at input (Unconnected before) (Unconnected after) old new h = absurd (let f : Err Store ≡ Err Closed = h.0 in cc)

  pub store_by : (input : SiteInput) (answer : Result Effects KeepFault) (old new : StoredSite D g) → AppliesBy old input answer new → answer ≡ Err Store → HasFailed new.kept
  store_by input answer old new h is = store_at input old.link new.link old.kept new.kept (subst (λ a. AppliesAt old.link old.kept input a new.link new.kept) is h.0)

  count_at : (input : SiteInput) (answer : Result Effects KeepFault) (before after : Link D g) (old new : Kept) → AppliesAt before old input answer after new → old.failures ≤ new.failures
  count_at input answer (Connected before) (Connected after) old new h = applies_count input answer old new h.0
  count_at input answer (Connected before) (Unconnected after) old new h = absurd h
  count_at input answer (Unconnected before) (Connected after) old new h = absurd h
  count_at input answer (Unconnected before) (Unconnected after) old new h = rw h.1 (omega arith)

  pub count_by : (input : SiteInput) (answer : Result Effects KeepFault) (old new : StoredSite D g) → AppliesBy old input answer new → old.kept.failures ≤ new.kept.failures
  count_by input answer old new h = count_at input answer old.link new.link old.kept new.kept h.0

  stop_open_at : (r : Record) (input : SiteInput) (keep : Keep) (done : Bool) (before after : Link D g) (old new : Kept) → shown_at before old ≡ Some r → StopsAt before old input keep done after new
      → Stops r input keep (Fails old new) done (shown_at after new) (MayIn new)
  stop_open_at r input keep done (Connected before) (Connected after) old new shown h = stops_open r input keep done old new shown h.0
  stop_open_at r input keep done (Connected before) (Unconnected after) old new shown h = absurd h
  stop_open_at r input keep done (Unconnected before) after old new shown h = absurd (let f : None ≡ Some r = shown in cc)

  pub stop_open_by : (r : Record) (input : SiteInput) (keep : Keep) (done : Bool) (old new : StoredSite D g) → shown_by old ≡ Some r → StopsBy old input keep done new → Stops r input keep (Fails old.kept new.kept) done (shown_by new) (MayBy new)
  stop_open_by r input keep done old new shown h = stop_open_at r input keep done old.link new.link old.kept new.kept shown h.0

  stop_closed_at : (input : SiteInput) (keep : Keep) (done : Bool) (before after : Link D g) (old new : Kept) → shown_at before old ≡ None → StopsAt before old input keep done after new → (new ≡ old) × (after ≡ before)
  stop_closed_at input keep done (Connected before) (Connected after) old new shown h =
      (stops_closed input keep done old new shown h.0, ap (λ c. Connected c) (h.1 (shown_closed old shown)))
  stop_closed_at input keep done (Connected before) (Unconnected after) old new shown h = absurd h
  stop_closed_at input keep done (Unconnected before) (Connected after) old new shown h = absurd h
  stop_closed_at input keep done (Unconnected before) (Unconnected after) old new shown h = (h.1, ap (λ f. Unconnected f) h.2)

  pub stop_closed_by : (input : SiteInput) (keep : Keep) (done : Bool) (old new : StoredSite D g) → shown_by old ≡ None → StopsBy old input keep done new → new ≡ old
  stop_closed_by input keep done old new shown h =
      let it = stop_closed_at input keep done old.link new.link old.kept new.kept shown h.0 in
      same_site old new it.0 it.1 h.1

  stop_count_at : (input : SiteInput) (keep : Keep) (done : Bool) (before after : Link D g) (old new : Kept) → StopsAt before old input keep done after new → old.failures ≤ new.failures
  stop_count_at input keep done (Connected before) (Connected after) old new h = stops_count input keep done old new h.0
  stop_count_at input keep done (Connected before) (Unconnected after) old new h = absurd h
  stop_count_at input keep done (Unconnected before) (Connected after) old new h = absurd h
  stop_count_at input keep done (Unconnected before) (Unconnected after) old new h = rw h.1 (omega arith)

  pub stop_count_by : (input : SiteInput) (keep : Keep) (done : Bool) (old new : StoredSite D g) → StopsBy old input keep done new → old.kept.failures ≤ new.kept.failures
  stop_count_by input keep done old new h = stop_count_at input keep done old.link new.link old.kept new.kept h.0

  -- ---- openings

  shut_shows : (link : Link D g) (kept : Kept) → kept.is_open ≡ false → shown_at link kept ≡ None
  shut_shows (Connected conn) kept is = closed_shows kept is
  shut_shows (Unconnected files) kept is = refl

  -- one that stays shut may be opened in the records of before
  pub stays_closed : (old : StoredSite D g) (left : Unopened (StoredSite D g)) → StaysShut old.kept left → StaysClosed (MayBy old) (shown_by left.keeper) (MayBy left.keeper)
  stays_closed old left h = (
    shut_shows left.keeper.link left.keeper.kept (ap (λ (k : Kept). k.is_open) h),
    λ r may. subst (λ (s : Standing). StandsIn s r) (ap (λ (k : Kept). k.standing) h) may,
  )

  pub left_cause : (old : StoredSite D g) (left : Unopened (StoredSite D g)) → StaysShut old.kept left → left.fault ≡ Device → Rises old.kept.failures left.keeper.kept.failures
  left_cause old left h is = rw (ap (λ (k : Kept). k.failures) h) (fault_rises left.fault old.kept.failures is)

  pub left_count : (old : StoredSite D g) (left : Unopened (StoredSite D g)) → StaysShut old.kept left → old.kept.failures ≤ left.keeper.kept.failures
  left_count old left h = rw (ap (λ (k : Kept). k.failures) h) (fault_counts left.fault old.kept.failures)

  -- ---- what a call over the connection does

  pub took_at : (link : Link D g) (before after : Held (FileStore D g)) (input : SiteInput) (answer : Result Effects KeepFault) (old new : Kept) → link ≡ Connected before → AppliesKept old.is_open old input answer new → (IsTrue (is_idle answer) → after ≡ before)
      → (HasCleanDisk (file_state after) → Keeps old.standing.state (file_state before) → KeepsAfter new answer (file_state after))
      → (HasCleanDisk (file_state after) → Keeps old.standing.state (file_state before) → IfErr answer (IsCaused (file_state before) (file_state after)))
      → (HasCleanDisk (file_state after) → HasCleanDisk (file_state before)) → AppliesAt link old input answer (Connected after) new
  took_at link before after input answer old new is steps calls disk cause clean = rw is (steps, calls, λ kept now. disk now (kept (clean now)), λ kept now. cause now (kept (clean now)))

  pub stopped_in : (link : Link D g) (before after : Held (FileStore D g)) (input : SiteInput) (keep : Keep) (done : Bool) (old new : Kept) → link ≡ Connected before → StopsKept old.is_open old input keep done new → (old.is_open ≡ false → after ≡ before)
      → (HasCleanDisk (file_state after) → IsTrue old.is_open → Keeps old.standing.state (file_state before) → KeepsStopped new done (file_state after)) → (HasCleanDisk (file_state after) → HasCleanDisk (file_state before)) → StopsAt link old input keep done (Connected after) new
  stopped_in link before after input keep done old new is steps calls disk clean = rw is (steps, calls, λ was kept now. disk now was (kept (clean now)))

  -- ---- what an opening returns

  pub opened_of : (old : StoredSite D g) (result : Result (StoredSite D g) (Unopened (StoredSite D g))) → IfOk result (OpensIn old.kept) → IfOk result (λ site. (r : Record) × MayBy old r × (shown_by site ≡ Some r))
  opened_of old (Ok site) h = (h.1, h.2, h.3)
  opened_of old (Err left) h = tt

  pub cause_of : (old : StoredSite D g) (result : Result (StoredSite D g) (Unopened (StoredSite D g))) → IfErr result (StaysShut old.kept) → IfErr result (λ left. left.fault ≡ Device → Rises old.kept.failures left.keeper.kept.failures)
  cause_of old (Ok site) h = tt
  cause_of old (Err left) h = left_cause old left h

  pub count_of : (old : StoredSite D g) (result : Result (StoredSite D g) (Unopened (StoredSite D g))) → IfOk result (OpensIn old.kept) → IfErr result (StaysShut old.kept)
      → MatchResult result (λ site. old.kept.failures ≤ site.kept.failures) (λ left. old.kept.failures ≤ left.keeper.kept.failures)
  count_of old (Ok site) h k = rw h.0 (omega arith)
  count_of old (Err left) h k = left_count old left k
