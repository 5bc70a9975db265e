-- What is reported of a keeper's answer.
use Rattle.std.proofs.Common.{◌≡◌, Bool, true, false, not, true≢false, Option, Some, None, is_some, Ok, Err, refl, sym, ap, ◌∙◌, subst}
use Rattle.std.specs.Prelude.{IsSome}
use Rattle.keeper_core.specs.Keeping.{Applies}
use Rattle.keeper_core.specs.declared.faults.KeepFault.TheVariants as faults
use Rattle.site_core.specs.Records.{Record}
use Rattle.site_core.specs.declared.inputs.SiteInput.{SiteInput}
use Rattle.site_core.specs.declared.outcomes.Effects.{Effects}
use Rattle.site_core.specs.declared.outcomes.Effects.TheVariants as effects
use Rattle.site_threads.specs.Answering.{AnsweredStep}
use Rattle.site_threads.specs.Inputs.{is_delivery}
use Rattle.site_threads.specs.Jobs.{is_stop, reply_to, told}
use Rattle.site_threads.specs.Keepers.{shown_if, may_if}
use Rattle.site_threads.specs.declared.jobs.Reply.{Reply}
use Rattle.site_threads.proofs.Taking.{Answer, none≢some, the, shown_up}

told_goes_on : (e : Effects) → is_stop (told e) ≡ false
told_goes_on (effects.Captured fresh known skipped) = refl
told_goes_on (effects.Started recall quarantined numbered ended) = refl
told_goes_on (effects.Received quarantined numbered owed) = refl
told_goes_on effects.Repeat = refl
told_goes_on effects.Stale = refl
told_goes_on effects.Cleared = refl
told_goes_on (effects.ParentDue parent) = refl
told_goes_on (effects.Ended recall) = refl

open_unless : (a : Answer) (f : Bool) (p : Reply) (old : Record) (input : SiteInput) (now : Option Record) (may : Record → Type 0) → Some p ≡ reply_to f a → Applies old input a now may → is_some now ≡ not (is_stop p)
open_unless (Ok d) f p old input None may e s = absurd s
open_unless (Ok d) f p old input (Some r) may e s = ap not (sym (ap is_stop (ap (the p) e) ∙ told_goes_on d))
open_unless (Err faults.NoMemory) f p old input now may e s = absurd (none≢some (sym e))
open_unless (Err (faults.Refused why)) f p old input None may e s = absurd s
open_unless (Err (faults.Refused why)) true p old input (Some r) may e s = ap (λ q. not (is_stop q)) (sym (ap (the p) e))
open_unless (Err (faults.Refused why)) false p old input (Some r) may e s = ap (λ q. not (is_stop q)) (sym (ap (the p) e))
open_unless (Err faults.Device) f p old input None may e s = ap (λ q. not (is_stop q)) (sym (ap (the p) e))
open_unless (Err faults.Device) f p old input (Some r) may e s = absurd s
open_unless (Err faults.Store) f p old input None may e s = ap (λ q. not (is_stop q)) (sym (ap (the p) e))
open_unless (Err faults.Store) f p old input (Some r) may e s = absurd s
open_unless (Err faults.Closed) f p old input now may e s = absurd s

-- a site is open after a step unless it stopped in it
pub stays_open : (shown now : Option Record) (may : Record → Type 0) (input : SiteInput) (a : Answer) (f : Bool) (p : Reply) → IsSome shown → ((r : Record) → shown ≡ Some r → Applies r input a now may) → Some p ≡ reply_to f a → is_some now ≡ not (is_stop p)
stays_open shown now may input a f p up applies e = let u = shown_up shown up in open_unless a f p u.0 input now may e (applies u.0 u.1)

module _ {K : Type 0} (shown : K → Option Record) (may : K → Record → Type 0) (applies : K → SiteInput → Answer → K → Type 0) where
  there : (o : Option K) → IsSome (shown_if shown o) → (k : K) × (o ≡ Some k)
  there None up = absurd (true≢false (sym up))
  there (Some k) up = (k, refl)

  pub told_so : (old new : Option K) (input : SiteInput) (a : Answer) (f : Bool) (p : Reply) → IsSome (shown_if shown old) → ((k : K) → old ≡ Some k → (l : K) × (new ≡ Some l) × applies k input a l)
      → ((r : Record) → shown_if shown old ≡ Some r → Applies r input a (shown_if shown new) (may_if may new)) → f ≡ is_delivery input → Some p ≡ reply_to f a → AnsweredStep shown may applies old input p new
  told_so old new input a f p up asked step frame e =
      let k = there old up in
      let l = asked k.0 k.1 in
      record {
        was = k.0;
        left = l.0;
        answer = a;
        old_is = k.1;
        new_is = l.1;
        applied = l.2;
        stands = λ r is. subst (λ (o : Option K). Applies r input a (shown_if shown o) (may_if may o)) l.1 (step r (ap (shown_if shown) k.1 ∙ is));
        reply_is = ap (λ b. reply_to b a) (sym frame) ∙ sym e;
      }
