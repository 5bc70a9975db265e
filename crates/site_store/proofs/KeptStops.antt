-- What a stop leaves, by the step in which it comes.
use Rattle.std.proofs.Common.{◌≡◌, true, false, Result, Ok, Err, inl, refl, sym, ◌∙◌, ap}
use Rattle.sqlite.specs.State.{State}
use Rattle.site_core.specs.declared.inputs.SiteInput.{SiteInput}
use Rattle.site_core.specs.declared.outcomes.Effects.{Effects}
use Rattle.keeper_core.specs.declared.faults.KeepFault.{KeepFault}
use Rattle.keeper_core.specs.declared.faults.KeepFault.TheVariants.{NoMemory, Refused, Device, Store, Closed}
use Rattle.site_store.specs.Faults.{lacks_memory}
use Rattle.site_store.specs.declared.kept.Kept.{Kept}
use Rattle.site_store.specs.Kept.{MayIn, StepsKept, KeepsAfter, LeavesAny, StopsInStep, stopped_at}
use Rattle.site_store.specs.StepWritten.{Keeps}

-- without memory the step wasn't taken
pub stopped_without : (old mid : Kept) (input : SiteInput) (answer : Result Effects KeepFault) → StepsKept old input answer mid → lacks_memory answer ≡ true → StopsInStep old input false mid
stopped_without old mid input (Ok effects) h lacks = absurd (let e : false ≡ true = lacks in cc)
stopped_without old mid input (Err NoMemory) h lacks = (Err NoMemory, mid, h, (refl, refl))
stopped_without old mid input (Err (Refused why)) h lacks = absurd (let e : false ≡ true = lacks in cc)
stopped_without old mid input (Err Device) h lacks = absurd (let e : false ≡ true = lacks in cc)
stopped_without old mid input (Err Store) h lacks = absurd (let e : false ≡ true = lacks in cc)
stopped_without old mid input (Err Closed) h lacks = absurd h

-- after a step that leaves it open
pub stopped_open : (old mid : Kept) (input : SiteInput) (answer : Result Effects KeepFault) → StepsKept old input answer mid → lacks_memory answer ≡ false → mid.is_open ≡ true → StopsInStep old input true (stopped_at mid)
stopped_open old mid input (Ok effects) h has is = (Ok effects, mid, h, (refl, refl))
stopped_open old mid input (Err NoMemory) h has is = absurd (let e : true ≡ false = has in cc)
stopped_open old mid input (Err (Refused why)) h has is = (Err (Refused why), mid, h, (refl, refl))
stopped_open old mid input (Err Device) h has is = absurd (let e : true ≡ false = sym is ∙ ap (λ (k : Kept). k.is_open) h.1 in cc)
stopped_open old mid input (Err Store) h has is = absurd (let e : true ≡ false = sym is ∙ ap (λ (k : Kept). k.is_open) h.1 in cc)
stopped_open old mid input (Err Closed) h has is = absurd h

-- after one that closes it
pub stopped_shut : (old mid : Kept) (input : SiteInput) (answer : Result Effects KeepFault) → old.is_open ≡ true → StepsKept old input answer mid → lacks_memory answer ≡ false → mid.is_open ≡ false → StopsInStep old input true mid
stopped_shut old mid input (Ok effects) was h has is = absurd (let e : true ≡ false = sym was ∙ sym (ap (λ (k : Kept). k.is_open) h.2) ∙ is in cc)
stopped_shut old mid input (Err NoMemory) was h has is = absurd (let e : true ≡ false = has in cc)
stopped_shut old mid input (Err (Refused why)) was h has is = absurd (let e : true ≡ false = sym was ∙ sym (ap (λ (k : Kept). k.is_open) h.1) ∙ is in cc)
stopped_shut old mid input (Err Device) was h has is = (Err Device, mid, h, (refl, refl))
stopped_shut old mid input (Err Store) was h has is = (Err Store, mid, h, (refl, refl))
stopped_shut old mid input (Err Closed) was h has is = absurd h

-- what the tables hold then
pub without_keeps : (mid : Kept) (answer : Result Effects KeepFault) (s : State) → lacks_memory answer ≡ true → KeepsAfter mid answer s → Keeps mid.standing.state s
without_keeps mid (Ok effects) s lacks it = absurd (let e : false ≡ true = lacks in cc)
without_keeps mid (Err NoMemory) s lacks it = it
without_keeps mid (Err (Refused why)) s lacks it = absurd (let e : false ≡ true = lacks in cc)
without_keeps mid (Err Device) s lacks it = absurd (let e : false ≡ true = lacks in cc)
without_keeps mid (Err Store) s lacks it = absurd (let e : false ≡ true = lacks in cc)
without_keeps mid (Err Closed) s lacks it = absurd (let e : false ≡ true = lacks in cc)

pub old_keeps : (k : Kept) (s : State) → Keeps k.standing.state s → LeavesAny (MayIn (stopped_at k)) s
old_keeps k s it db may = (k.standing.state, inl refl, it.crash db may)

pub open_keeps : (old mid : Kept) (input : SiteInput) (answer : Result Effects KeepFault) (s : State) → StepsKept old input answer mid → mid.is_open ≡ true → KeepsAfter mid answer s → LeavesAny (MayIn (stopped_at mid)) s
open_keeps old mid input (Ok effects) s h is it = old_keeps mid s it
open_keeps old mid input (Err NoMemory) s h is it = old_keeps mid s it
open_keeps old mid input (Err (Refused why)) s h is it = old_keeps mid s it
open_keeps old mid input (Err Device) s h is it = absurd (let e : true ≡ false = sym is ∙ ap (λ (k : Kept). k.is_open) h.1 in cc)
open_keeps old mid input (Err Store) s h is it = absurd (let e : true ≡ false = sym is ∙ ap (λ (k : Kept). k.is_open) h.1 in cc)
open_keeps old mid input (Err Closed) s h is it = absurd h

pub shut_keeps : (old mid : Kept) (input : SiteInput) (answer : Result Effects KeepFault) (s : State) → old.is_open ≡ true → StepsKept old input answer mid → mid.is_open ≡ false → KeepsAfter mid answer s → LeavesAny (MayIn mid) s
shut_keeps old mid input (Ok effects) s was h is it = absurd (let e : true ≡ false = sym was ∙ sym (ap (λ (k : Kept). k.is_open) h.2) ∙ is in cc)
shut_keeps old mid input (Err NoMemory) s was h is it = absurd (let e : true ≡ false = sym was ∙ sym (ap (λ (k : Kept). k.is_open) h.1) ∙ is in cc)
shut_keeps old mid input (Err (Refused why)) s was h is it = absurd (let e : true ≡ false = sym was ∙ sym (ap (λ (k : Kept). k.is_open) h.1) ∙ is in cc)
shut_keeps old mid input (Err Device) s was h is it = it
shut_keeps old mid input (Err Store) s was h is it = it
shut_keeps old mid input (Err Closed) s was h is it = absurd h
