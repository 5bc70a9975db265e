-- An input has one outcome at a site that is up, and has one.
use Rattle.std.proofs.Common.{◌≡◌, Option, Some, None, refl, sym, ap, ◌∙◌, inl, inr}
use Rattle.keeper_core.specs.Memory.{Leaves}
use Rattle.keeper_core.specs.declared.faults.Keep.{Keep}
use Rattle.keeper_core.specs.declared.faults.Keep.TheVariants.{Old, New}
use Rattle.site_core.proofs.InputOutcomes.{inputs_have_an_outcome}
use Rattle.site_core.proofs.OneEffect.{effects_are_fixed}
use Rattle.site_core.proofs.OneRefusal.{done_is_not_refused, refusals_are_fixed}
use Rattle.site_core.specs.Records.{Record}
use Rattle.site_core.specs.declared.inputs.SiteInput.{SiteInput}
use Rattle.world_core.specs.Worlds.{Standing, Up, Down}
use Rattle.script_core.specs.Happening.{Happens}
use Rattle.script_core.specs.declared.worlds.Outcome.{Outcome}
use Rattle.script_core.specs.declared.worlds.Outcome.TheVariants.{Did, Refused, Stopped}

one_left : (old : Record) (input : SiteInput) (keep : Keep) (r s : Record) → Leaves old input keep r → Leaves old input keep s → r ≡ s
one_left old input Old r s p q = p ∙ sym q
one_left old input New r s (inl (e, does)) (inl (f, also)) = (effects_are_fixed old r s input e f does also).1
one_left old input New r s (inl (e, does)) (inr ((why, refused), same)) = absurd (refused.0 (done_is_not_refused old r input e why does refused.1))
one_left old input New r s (inr ((why, refused), same)) (inl (e, does)) = absurd (refused.0 (done_is_not_refused old s input e why does refused.1))
one_left old input New r s (inr (_, same)) (inr (_, also)) = same ∙ sym also

pub one_happening : (old : Record) (armed : Option Keep) (input : SiteInput) (a b : Outcome) (s t : Standing) → Happens old armed input a s → Happens old armed input b t → (a ≡ b) × (s ≡ t)
one_happening old None input (Did e) (Did f) s t (r, does, is) (q, also, is_too) =
    let (same, left) = effects_are_fixed old r q input e f does also in (ap Did same, is ∙ ap Up left ∙ sym is_too)
one_happening old None input (Did e) (Refused why) s t (r, does, is) (refused, _) = absurd (refused.0 (done_is_not_refused old r input e why does refused.1))
one_happening old None input (Refused why) (Did e) s t (refused, _) (r, does, is) = absurd (refused.0 (done_is_not_refused old r input e why does refused.1))
one_happening old None input (Refused a) (Refused b) s t (p, is) (q, is_too) = (ap Refused (refusals_are_fixed old input a b p.0 q.0 p.1 q.1), is ∙ sym is_too)
one_happening old (Some keep) input Stopped Stopped s t (r, leaves, is) (q, also, is_too) = (refl, is ∙ ap Down (one_left old input keep r q leaves also) ∙ sym is_too)
one_happening old None input Stopped b s t p q = absurd p
one_happening old None input (Did e) Stopped s t p q = absurd q
one_happening old None input (Refused e) Stopped s t p q = absurd q
one_happening old (Some keep) input (Did e) b s t p q = absurd p
one_happening old (Some keep) input (Refused e) b s t p q = absurd p
one_happening old (Some keep) input Stopped (Did e) s t p q = absurd q
one_happening old (Some keep) input Stopped (Refused e) s t p q = absurd q

pub some_happening : (old : Record) (armed : Option Keep) (input : SiteInput) → (a : Outcome) × (s : Standing) × Happens old armed input a s
some_happening old None input = elim (inputs_have_an_outcome old input) as (λ _. (a : Outcome) × (s : Standing) × Happens old None input a s) [
  | inl done ↦ (Did done.0, Up done.1, (done.1, done.2, refl))
  | inr refused ↦ (Refused refused.0, Up old, ((refused.1, refused.2), refl))
]
some_happening old (Some Old) input = (Stopped, Down old, (old, refl, refl))
some_happening old (Some New) input = elim (inputs_have_an_outcome old input) as (λ _. (a : Outcome) × (s : Standing) × Happens old (Some New) input a s) [
  | inl done ↦ (Stopped, Down done.1, (done.1, inl (done.0, done.2), refl))
  | inr refused ↦ (Stopped, Down old, (old, inr ((refused.0, (refused.1, refused.2)), refl), refl))
]
