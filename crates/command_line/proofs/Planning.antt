-- A plan, one part after another.
use Rattle.std.proofs.Common.{◌≡◌, ◌≢◌, ◌==◌, ℕ, List, [], ◌∷◌, ◌++◌, Option, if◌then◌else◌, inl, map, refl, subst}
use Rattle.std.specs.Prelude.{IfErr, IfOk, MatchResult, Result, Ok, Err}
use Rattle.event_json.specs.Sites.{Site}
use Rattle.recall_outcomes.specs.declared.faults.Fault.{Fault}
use Rattle.recall_outcomes.specs.declared.faults.Fault.TheVariants.{NoMemory}
use Rattle.recall_text.specs.Words.{name_at}
use Rattle.site_core.specs.Records.{Record}
use Rattle.site_folders.specs.FileCalls.{FileCall, Led}
use Rattle.site_folders.proofs.VainLemmas.{none_asks, ran_out}
use Rattle.folder_commands.specs.Batches.{BatchFails, TakesAll}
use Rattle.folder_commands.specs.Inputs.{Input}
use Rattle.folder_commands.specs.Words.{Texts}
use Rattle.folder_commands.specs.declared.batches.BatchOutput.{BatchOutput}
use Rattle.folder_questions.specs.declared.plans.PlannedBatch.{PlannedBatch}
use Rattle.outcome_forms.specs.declared.forms.Form.{Form}
use Rattle.world_core.specs.KeptSteps.{StandsAfter}
use Rattle.world_core.proofs.KeptSteps.{stands_append}
use Rattle.command_line.specs.Ends.{InputLine, Progress, TakesMore, TakesPart, TellsPart, progress}
use Rattle.command_line.specs.Plans.{inputs_of, planned_input}

module _ {F K W : Type 0} (does : F → FileCall K → F → Type 0) (shown : K → Option Record) (may : K → Record → Type 0) (stored : K → Type 0) (contents : W → Option (List ℕ)) (form : Form) (folder : List ℕ) (sites : List Site) where
  -- one part more was taken
  pub one_more_part : (done : List PlannedBatch) (part : PlannedBatch) (start : Progress F W) (files new : F) (output after : W) (worst status last : ℕ)
      → StandsAfter (TakesMore does shown may stored contents form folder sites) start done (progress files output worst) → TellsPart does shown may stored contents form folder sites part files new output after status
      → (status ≢ 3) → last ≡ (if status == 0 then worst else status) → StandsAfter (TakesMore does shown may stored contents form folder sites) start (done ++ part ∷ []) (progress new after last)
  one_more_part done part start files new output after worst status last so_far tells whole is =
      stands_append (TakesMore does shown may stored contents form folder sites) done (part ∷ []) start (progress files output worst) (progress new after last) so_far
      (progress new after last, (status, tells, whole, is), refl)

  module _ (part : PlannedBatch) (old new : F) (before after : W) where
    -- a site took its part, or a fault broke that off
    pub part_came : (came : Result BatchOutput Fault) (name : List ℕ) (inputs : List Input) → name ≡ name_at sites part.site → inputs ≡ map (planned_input part.task) part.inputs.items
        → IfOk came (λ output. Led does old new (TakesAll shown stored (InputLine contents form part.task) folder name (Texts part.task inputs) before after output))
        → IfErr came (λ fault. Led does old new (BatchFails shown stored (InputLine contents form part.task) folder name (Texts part.task inputs) may before after fault))
        → TakesPart does shown may stored contents form folder sites part old new before after came
    part_came (Ok output) name inputs is are ok err =
        subst (λ (n : List ℕ). Led does old new (TakesAll shown stored (InputLine contents form part.task) folder n (inputs_of part) before after output)) is
        (subst (λ (given : List Input). Led does old new (TakesAll shown stored (InputLine contents form part.task) folder name (Texts part.task given) before after output)) are ok)
    part_came (Err fault) name inputs is are ok err =
        subst (λ (n : List ℕ). Led does old new (BatchFails shown stored (InputLine contents form part.task) folder n (inputs_of part) may before after fault)) is
        (subst (λ (given : List Input). Led does old new (BatchFails shown stored (InputLine contents form part.task) folder name (Texts part.task given) may before after fault)) are err)

  -- memory ran out before
  pub part_out : (part : PlannedBatch) (files : F) (output : W) (came : Result BatchOutput Fault) → MatchResult came (λ told. ⊥) (λ fault. fault ≡ NoMemory) → TakesPart does shown may stored contents form folder sites part files files output output came
  part_out part files output (Ok told) none = absurd none
  part_out part files output (Err fault) is = record { calls = []; are = inl (ran_out shown folder fault [] is none_asks, refl); led = refl }
