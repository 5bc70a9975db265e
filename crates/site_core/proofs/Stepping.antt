-- A step on a copy, from the step in place.
use Rattle.std.proofs.Common.{◌≡◌, true, false, cond, refl, sym, subst}
use Rattle.site_core.specs.declared.inputs.SiteInput.{SiteInput}
use Rattle.site_core.specs.declared.outcomes.Effects.{Effects}
use Rattle.site_core.specs.declared.steps.Stepped.TheVariants.{Same, Next}
use Rattle.site_core.specs.Records.{Record}
use Rattle.site_core.specs.Stepping.{IsStepped, stepped_to}
use Rattle.site_core.specs.Steps.{Does, changes}
use Rattle.site_core.proofs.ChangesTold.{unchanged}

-- effects that change nothing leave the record that was copied
pub stepped : (s t : Record) (input : SiteInput) (effects : Effects) → Does s input effects t → IsStepped s input (stepped_to t effects)
stepped s t input effects does = elim (changes effects) as (λ b. changes effects ≡ b → IsStepped s input (cond b (Next t effects) (Same effects))) [
  | true ↦ λ is. (does, is)
  | false ↦ λ is. (subst (Does s input effects) (sym (unchanged s t input effects does is)) does, is)
] refl
