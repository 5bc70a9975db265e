-- A step and a stop of a record that a database keeps are those of a keeper.
use Rattle.std.proofs.Common.{◌≡◌, ◌⊎◌, ℕ, ◌+◌, ◌^◌, ◌≤◌, ◌==◌, arith, Bool, true, false, Some, None, Result, Ok, Err, inl, inr, refl, sym, ◌∙◌, ap, subst, ⊎_elim, if◌then◌else◌}
use Rattle.std.proofs.lemmas.Bool.{eqb-true}
use Rattle.std.proofs.lemmas.Option.{same_Some}
use Rattle.site_core.specs.Records.{Record}
use Rattle.site_core.specs.Steps.{Does, CopiesRecord}
use Rattle.site_core.specs.declared.inputs.SiteInput.{SiteInput}
use Rattle.site_core.specs.declared.outcomes.Effects.{Effects}
use Rattle.keeper_core.specs.declared.faults.Keep.{Keep}
use Rattle.keeper_core.specs.declared.faults.Keep.TheVariants.{Old, New}
use Rattle.keeper_core.specs.declared.faults.KeepFault.{KeepFault}
use Rattle.keeper_core.specs.declared.faults.KeepFault.TheVariants.{NoMemory, Refused, Device, Store, Closed}
use Rattle.keeper_core.specs.Keeping.{Applies, Stops, IsAfter, IsRefusedFor, MayBeNew, MayBeOldOrNew, Rises}
use Rattle.keeper_core.specs.Memory.{one_more}
use Rattle.site_store.specs.declared.kept.Kept.{Kept}
use Rattle.site_store.specs.Kept.{shown_in, HasFailed, MayIn, failures_after, ClosesAt, StepsKept, AppliesKept, StopsAfter, StopsKept, stopped_at}

-- where a record is shown, it is open in that
pub shown_open : (k : Kept) (r : Record) → shown_in k ≡ Some r → (k.is_open ≡ true) × (k.standing.state ≡ r)
shown_open k r shown = at k.is_open shown
  where
    at : (b : Bool) → (if b then Some k.standing.state else None) ≡ Some r → (b ≡ true) × (k.standing.state ≡ r)
    at true e = (refl, same_Some k.standing.state r e)
    at false e = absurd (let f : None ≡ Some r = e in cc)

pub opened : (k : Kept) → k.is_open ≡ true → shown_in k ≡ Some k.standing.state
opened k is = ap (λ b. if b then Some k.standing.state else None) is

pub closed_shows : (k : Kept) → k.is_open ≡ false → shown_in k ≡ None
closed_shows k is = ap (λ b. if b then Some k.standing.state else None) is

-- closed in a step, it may be opened in the record before it or in the one after
old_or_new : (r : Record) (input : SiteInput) (fault : KeepFault) (old new : Kept) → old.standing.state ≡ r → ClosesAt old input fault new → MayBeOldOrNew r input (MayIn new)
old_or_new r input fault old new same h q may =
    let before : new.standing.state ≡ r = ap (λ (k : Kept). k.standing.state) h.1 ∙ same in
    let asked : new.standing.pending ≡ Some input = ap (λ (k : Kept). k.standing.pending) h.1 in
    ⊎_elim (λ e. inl (e ∙ before)) (λ w. inr (subst (λ x. IsAfter x input q) before (subst (λ i. IsAfter new.standing.state i q) (same_Some w.0 input (sym w.1 ∙ asked)) w.2))) may

closes : (r : Record) (input : SiteInput) (fault : KeepFault) (old new : Kept) → ClosesAt old input fault new → shown_in new ≡ None
closes r input fault old new h = closed_shows new (ap (λ (k : Kept). k.is_open) h.1)

stays : (r : Record) (old new : Kept) → old.is_open ≡ true → old.standing.state ≡ r → new ≡ old → shown_in new ≡ Some r
stays r old new is same e = ap shown_in e ∙ opened old is ∙ ap (λ (x : Record). Some x) same

steps : (r : Record) (input : SiteInput) (answer : Result Effects KeepFault) (old new : Kept) → old.is_open ≡ true → old.standing.state ≡ r → StepsKept old input answer new → Applies r input answer (shown_in new) (MayIn new)
steps r input (Ok effects) old new is same h =
    subst (λ o. Applies r input (Ok effects) o (MayIn new)) (sym (opened new (ap (λ (k : Kept). k.is_open) h.2 ∙ is))) (subst (λ x. Does x input effects new.standing.state) same h.0)
steps r input (Err (Refused why)) old new is same h = rw (stays r old new is same h.1) (rw (sym same) h.0, refl)
steps r input (Err NoMemory) old new is same h = rw (stays r old new is same h.1) refl
steps r input (Err Device) old new is same h = rw (closes r input Device old new h) (old_or_new r input Device old new same h)
steps r input (Err Store) old new is same h = rw (closes r input Store old new h) (old_or_new r input Store old new same h)
steps r input (Err Closed) old new is same h = absurd h

-- a step, where it shows a record
pub applies_open : (r : Record) (input : SiteInput) (answer : Result Effects KeepFault) (old new : Kept) → shown_in old ≡ Some r → AppliesKept old.is_open old input answer new → Applies r input answer (shown_in new) (MayIn new)
applies_open r input answer old new shown h =
    let at = shown_open old r shown in
    steps r input answer old new at.0 at.1 (subst (λ b. AppliesKept b old input answer new) at.0 h)

-- memory is needed for none but what a look doesn't answer
pub applies_memory : (r : Record) (input : SiteInput) (old new : Kept) → shown_in old ≡ Some r → AppliesKept old.is_open old input (Err NoMemory) new → CopiesRecord r input
applies_memory r input old new shown h =
    let at = shown_open old r shown in
    subst (λ x. CopiesRecord x input) at.1 (subst (λ b. AppliesKept b old input (Err NoMemory) new) at.0 h).0

pub shown_closed : (k : Kept) → shown_in k ≡ None → k.is_open ≡ false
shown_closed k shown = at k.is_open shown
  where
    at : (b : Bool) → (if b then Some k.standing.state else None) ≡ None → b ≡ false
    at true e = absurd (let f : Some k.standing.state ≡ None = e in cc)
    at false e = refl

-- and where it shows none
pub applies_closed : (input : SiteInput) (answer : Result Effects KeepFault) (old new : Kept) → shown_in old ≡ None → AppliesKept old.is_open old input answer new → (answer ≡ Err Closed) × (new ≡ old)
applies_closed input answer old new shown h = subst (λ b. AppliesKept b old input answer new) (shown_closed old shown) h

one_more_rises : (n : ℕ) → Rises n (one_more n)
one_more_rises n = by (n + 1 == 2 ^ 64) refl
  where
    by : (b : Bool) → n + 1 == 2 ^ 64 ≡ b → Rises n (if b then n else n + 1)
    by true e = inr (eqb-true (n + 1) (2 ^ 64) e)
    by false e = inl (omega arith)

one_more_counts : (n : ℕ) → n ≤ one_more n
one_more_counts n = by (n + 1 == 2 ^ 64)
  where
    by : (b : Bool) → n ≤ (if b then n else n + 1)
    by true = omega arith
    by false = omega arith

kept_count : (old new : Kept) → new ≡ old → old.failures ≤ new.failures
kept_count old new e = rw e (omega arith)

steps_count : (input : SiteInput) (answer : Result Effects KeepFault) (old new : Kept) → StepsKept old input answer new → old.failures ≤ new.failures
steps_count input (Ok effects) old new h = rw (ap (λ (k : Kept). k.failures) h.2) (omega arith)
steps_count input (Err (Refused why)) old new h = kept_count old new h.1
steps_count input (Err NoMemory) old new h = kept_count old new h.1
steps_count input (Err Device) old new h = rw (ap (λ (k : Kept). k.failures) h.1) (one_more_counts old.failures)
steps_count input (Err Store) old new h = rw (ap (λ (k : Kept). k.failures) h.1) (omega arith)
steps_count input (Err Closed) old new h = absurd h

-- no failure is forgotten
pub applies_count : (input : SiteInput) (answer : Result Effects KeepFault) (old new : Kept) → AppliesKept old.is_open old input answer new → old.failures ≤ new.failures
applies_count input answer old new h = at old.is_open h
  where
    at : (b : Bool) → AppliesKept b old input answer new → old.failures ≤ new.failures
    at true it = steps_count input answer old new it
    at false it = kept_count old new it.1

-- a failure of the device is counted
pub applies_cause : (input : SiteInput) (old new : Kept) → AppliesKept old.is_open old input (Err Device) new → Rises old.failures new.failures
applies_cause input old new h = at old.is_open h
  where
    at : (b : Bool) → AppliesKept b old input (Err Device) new → Rises old.failures new.failures
    at true it = rw (ap (λ (k : Kept). k.failures) it.1) (one_more_rises old.failures)
    at false it = absurd (let f : Err Device ≡ Err Closed = it.0 in cc)

-- a step that the store failed in is kept
pub applies_store : (input : SiteInput) (old new : Kept) → AppliesKept old.is_open old input (Err Store) new → HasFailed new
applies_store input old new h = at old.is_open h
  where
    at : (b : Bool) → AppliesKept b old input (Err Store) new → HasFailed new
    at true it = (input, ap (λ (k : Kept). k.standing.pending) it.1)
    at false it = absurd (let f : Err Store ≡ Err Closed = it.0 in cc)

-- stopped in its record
rests : (k new : Kept) → new ≡ stopped_at k → (shown_in new ≡ None) × ((q : Record) → MayIn new q → q ≡ k.standing.state)
rests k new e = (
  closed_shows new (ap (λ (k : Kept). k.is_open) e),
  λ q may. ⊎_elim (λ h. h ∙ ap (λ (k : Kept). k.standing.state) e) (λ w. absurd (let f : None ≡ Some w.0 = sym (ap (λ (k : Kept). k.standing.pending) e) ∙ w.1 in cc)) may,
)

-- the device failed once more, or a step that failed is kept
abbrev pub Fails : Kept → Kept → Type 0
Fails old new = Rises old.failures new.failures ⊎ HasFailed new

-- closed in a step that failed, it may be opened in the old record for that reason
new_unless : (r : Record) (input : SiteInput) (fault : KeepFault) (old mid new : Kept) → old.standing.state ≡ r → ClosesAt old input fault mid → new ≡ mid → Fails old new → MayBeNew r input (Fails old new) (MayIn new)
new_unless r input fault old mid new same h is failed q may =
    ⊎_elim (λ e. inr (e, inr failed)) (λ a. inl a) (old_or_new r input fault old mid same h q (subst (λ k. MayIn k q) is may))

in_step : (r : Record) (input : SiteInput) (answer : Result Effects KeepFault) (old mid new : Kept) (done : Bool) → old.is_open ≡ true → old.standing.state ≡ r → StepsKept old input answer mid → StopsAfter answer mid done new
    → Stops r input New (Fails old new) done (shown_in new) (MayIn new)
in_step r input (Ok effects) old mid new done is same h stop =
    let it = rests mid new stop.1 in
    rw (stop.0, it.0) (λ q may. inl (effects, subst (λ x. Does r input effects x) (sym (it.1 q may)) (subst (λ x. Does x input effects mid.standing.state) same h.0)))
in_step r input (Err (Refused why)) old mid new done is same h stop =
    let it = rests mid new stop.1 in
    rw (stop.0, it.0) (λ q may. inr (it.1 q may ∙ ap (λ (k : Kept). k.standing.state) h.1 ∙ same, inl (why, subst (λ x. IsRefusedFor x input why) same h.0)))
in_step r input (Err NoMemory) old mid new done is same h stop = rw (stop.0, stays r old new is same (stop.1 ∙ h.1)) refl
in_step r input (Err Device) old mid new done is same h stop =
    let rises = subst (Rises old.failures) (sym (ap (λ (k : Kept). k.failures) (stop.1 ∙ h.1))) (one_more_rises old.failures) in
    rw (stop.0, ap shown_in stop.1 ∙ closes r input Device old mid h) (new_unless r input Device old mid new same h stop.1 (inl rises))
in_step r input (Err Store) old mid new done is same h stop =
    rw (stop.0, ap shown_in stop.1 ∙ closes r input Store old mid h)
    (new_unless r input Store old mid new same h stop.1 (inr (input, ap (λ (k : Kept). k.standing.pending) (stop.1 ∙ h.1))))
in_step r input (Err Closed) old mid new done is same h stop = absurd h

stops : (r : Record) (input : SiteInput) (keep : Keep) (done : Bool) (old new : Kept) → old.is_open ≡ true → old.standing.state ≡ r → StopsKept true old input keep done new → Stops r input keep (Fails old new) done (shown_in new) (MayIn new)
stops r input Old done old new is same h =
    let it = rests old new h.1 in
    rw (h.0, it.0) (λ q may. it.1 q may ∙ same)
stops r input New done old new is same h = in_step r input h.0 old h.1 new done is same h.2 h.3

-- a stop, where it shows a record
pub stops_open : (r : Record) (input : SiteInput) (keep : Keep) (done : Bool) (old new : Kept) → shown_in old ≡ Some r → StopsKept old.is_open old input keep done new → Stops r input keep (Fails old new) done (shown_in new) (MayIn new)
stops_open r input keep done old new shown h =
    let at = shown_open old r shown in
    stops r input keep done old new at.0 at.1 (subst (λ b. StopsKept b old input keep done new) at.0 h)

pub stops_closed : (input : SiteInput) (keep : Keep) (done : Bool) (old new : Kept) → shown_in old ≡ None → StopsKept old.is_open old input keep done new → new ≡ old
stops_closed input keep done old new shown h = (subst (λ b. StopsKept b old input keep done new) (shown_closed old shown) h).1

after_count : (answer : Result Effects KeepFault) (mid new : Kept) (done : Bool) → StopsAfter answer mid done new → mid.failures ≤ new.failures
after_count (Ok effects) mid new done h = rw (ap (λ (k : Kept). k.failures) h.1) (omega arith)
after_count (Err (Refused why)) mid new done h = rw (ap (λ (k : Kept). k.failures) h.1) (omega arith)
after_count (Err NoMemory) mid new done h = kept_count mid new h.1
after_count (Err Device) mid new done h = kept_count mid new h.1
after_count (Err Store) mid new done h = kept_count mid new h.1
after_count (Err Closed) mid new done h = rw (ap (λ (k : Kept). k.failures) h.1) (omega arith)

pub stops_count : (input : SiteInput) (keep : Keep) (done : Bool) (old new : Kept) → StopsKept old.is_open old input keep done new → old.failures ≤ new.failures
stops_count input keep done old new h = at old.is_open keep h
  where
    at : (b : Bool) (keep : Keep) → StopsKept b old input keep done new → old.failures ≤ new.failures
    at false keep it = kept_count old new it.1
    at true Old it = rw (ap (λ (k : Kept). k.failures) it.1) (omega arith)
    at true New it =
        let one = steps_count input it.0 old it.1 it.2 in
        let two = after_count it.0 it.1 new done it.3 in
        omega (one, two, arith)

-- ---- what prevents an opening

-- a failure of the device is counted
pub fault_rises : (fault : KeepFault) (n : ℕ) → fault ≡ Device → Rises n (failures_after fault n)
fault_rises fault n is = rw is (one_more_rises n)

pub fault_counts : (fault : KeepFault) (n : ℕ) → n ≤ failures_after fault n
fault_counts NoMemory n = omega arith
fault_counts (Refused why) n = omega arith
fault_counts Device n = one_more_counts n
fault_counts Closed n = omega arith
fault_counts Store n = omega arith
