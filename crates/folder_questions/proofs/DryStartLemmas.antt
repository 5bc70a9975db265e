-- what a step on a copy is told as
use Rattle.std.proofs.Common.{◌≡◌, ℕ, List, refl, sym, subst}
use Rattle.recall_outcomes.specs.declared.outcomes.CommandRefusal.TheVariants.{Step}
use Rattle.recall_outcomes.specs.declared.outcomes.Outcome.{Outcome}
use Rattle.site_core.specs.Records.{Record}
use Rattle.site_core.specs.Spreading.{IsKnownItem}
use Rattle.site_core.specs.Stepping.{IsStepped}
use Rattle.site_core.specs.Steps.{Does}
use Rattle.site_core.specs.declared.inputs.SiteInput.{SiteInput}
use Rattle.site_core.specs.declared.inputs.SiteInput.TheVariants.{Start}
use Rattle.site_core.specs.declared.outcomes.Effects.{Effects}
use Rattle.site_core.specs.declared.outcomes.Effects.TheVariants as effects
use Rattle.site_core.specs.declared.outcomes.Refusal.TheVariants as refusals
use Rattle.site_core.specs.declared.steps.Stepped.{Stepped}
use Rattle.site_core.specs.declared.steps.Stepped.TheVariants.{Same, Next}
use Rattle.site_folders.specs.Refusals.{IsRefusal}
use Rattle.folder_questions.specs.DryStarts.{AnswersStep, TellsStart, effects_of}
use Rattle.folder_questions.proofs.RefusalLemmas.{only_refused}

module _ (r : Record) (input : SiteInput) where
  of_effects : (after : Record) (e : Effects) (o : Outcome) → Does r input e after → TellsStart e o → AnswersStep r input o
  of_effects after (effects.Captured fresh known skipped) o does told = absurd told
  of_effects after (effects.Started recall quarantined numbered ended) o does told =
      subst (AnswersStep r input) (sym told) (effects.Started recall quarantined numbered ended, after, does, refl)
  of_effects after (effects.Received quarantined numbered owed) o does told = absurd told
  of_effects after effects.Repeat o does told = absurd told
  of_effects after effects.Stale o does told = absurd told
  of_effects after effects.Cleared o does told = absurd told
  of_effects after (effects.ParentDue m) o does told = absurd told
  of_effects after (effects.Ended recall) o does told = absurd told

  -- a step that tells of a start answers what the start would do
  pub would_answer : (stepped : Stepped) (o : Outcome) → IsStepped r input stepped → TellsStart (effects_of stepped) o → AnswersStep r input o
  would_answer (Same e) o is told = of_effects r e o is.0 told
  would_answer (Next after e) o is told = of_effects after e o is.0 told

-- the item isn't known, and that is the refusal
pub unknown_start : (r : Record) (item : List ℕ) (o : Outcome) → (IsKnownItem r.captured r.quarantine item → ⊥) → IsRefusal (Step refusals.UnknownItem) o → AnswersStep r (Start item) o
unknown_start r item o none is =
    let (whys, same, refused) = only_refused (Step refusals.UnknownItem) o is in
    subst (AnswersStep r (Start item)) (sym same) (refusals.UnknownItem, ((λ same. absurd (let bad : refusals.UnknownItem ≡ refusals.NoMemory = same in cc)), none), refused)
