-- An armed step of a keeper in memory is a stop, and so leaves the old record or the new one.
use Rattle.std.proofs.Common.{◌≡◌, ◌⊎◌, Bool, true, false, Some, None, Result, Err, inl, inr, refl, sym, ◌∙◌, ap, subst, ⊎_elim, if◌then◌else◌}
use Rattle.std.proofs.lemmas.Option.{same_Some}
use Rattle.site_core.specs.Records.{Record}
use Rattle.site_core.specs.declared.inputs.SiteInput.{SiteInput}
use Rattle.site_core.specs.declared.outcomes.Effects.{Effects}
use Rattle.keeper_core.specs.declared.faults.Keep.{Keep}
use Rattle.keeper_core.specs.declared.faults.Keep.TheVariants.{Old, New}
use Rattle.keeper_core.specs.declared.faults.KeepFault.{KeepFault}
use Rattle.keeper_core.specs.declared.faults.KeepFault.TheVariants.{NoMemory, Device}
use Rattle.keeper_core.specs.Keeping.{Applies, IsAfter, MayBeOldOrNew}
use Rattle.keeper_core.specs.Memory.{InMemory, shown_in, MayIn, Leaves, FailsIn}

shown_state : (b : Bool) (state r : Record) → (if b then Some state else None) ≡ Some r → state ≡ r
shown_state true state r e = same_Some state r e
shown_state false state r e = cc

left : (r : Record) (input : SiteInput) (keep : Keep) (new : InMemory) → Leaves r input keep new.state → MayBeOldOrNew r input (MayIn new)
left r input Old new h = λ q e. inl (e ∙ h)
left r input New new h = λ q e. subst (λ x. (x ≡ r) ⊎ IsAfter r input x) (sym e) (⊎_elim (λ a. inr a) (λ b. inl b.1) h)

device : (r : Record) (input : SiteInput) (keep : Keep) (old new : InMemory) → old.state ≡ r → Leaves old.state input keep new.state → shown_in new ≡ None → Applies r input (Err Device) (shown_in new) (MayIn new)
device r input keep old new same h closed =
    subst (λ o. Applies r input (Err Device) o (MayIn new)) (sym closed) (left r input keep new (subst (λ x. Leaves x input keep new.state) same h))

fails : (r : Record) (input : SiteInput) (keep : Keep) (answer : Result Effects KeepFault) (old new : InMemory) → shown_in old ≡ Some r → old.state ≡ r → FailsIn old input keep answer new → Applies r input answer (shown_in new) (MayIn new)
fails r input Old (Err Device) old new shown same h = device r input Old old new same h.0 (ap shown_in h.1)
fails r input New (Err Device) old new shown same h = device r input New old new same h.0 (ap shown_in h.1)
fails r input New (Err NoMemory) old new shown same h = subst (λ o. Applies r input (Err NoMemory) o (MayIn new)) (sym (ap shown_in h.1 ∙ shown)) refl
fails r input keep answer old new shown same h = absurd h

pub armed_fails : (r : Record) (input : SiteInput) (keep : Keep) (answer : Result Effects KeepFault) (old new : InMemory) → shown_in old ≡ Some r → FailsIn old input keep answer new → Applies r input answer (shown_in new) (MayIn new)
armed_fails r input keep answer old new shown h = fails r input keep answer old new shown (shown_state old.is_open old.state r shown) h
