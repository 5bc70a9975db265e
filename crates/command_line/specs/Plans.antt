-- Commands that are planned: what the records of all sites are asked, and what the answer has sites take.
use Rattle.std.specs.Prelude.{ℕ, List, Option, IfErr, IfOk, Result, map, option_map, string_bytes}
use Rattle.event_json.specs.Sites.{Site}
use Rattle.frame_core.specs.Numbers.{Recall}
use Rattle.item_spellings.specs.declared.spellings.Spelling.TheVariants.{Key}
use Rattle.recall_outcomes.specs.declared.batches.Task.{Task}
use Rattle.recall_outcomes.specs.declared.batches.Task.TheVariants as tasks
use Rattle.recall_outcomes.specs.declared.faults.Fault.{Fault}
use Rattle.site_core.specs.Records.{Record}
use Rattle.site_folders.specs.Faults.{EndsInVain}
use Rattle.site_folders.specs.FileCalls.{FileCall, Led}
use Rattle.site_folders.specs.Questions.{AsksAll}
use Rattle.folder_commands.specs.Inputs.{Input}
use Rattle.folder_commands.specs.Words.{InputsFrom, Texts}
use Rattle.folder_commands.specs.declared.inputs.Doing.{Doing}
use Rattle.folder_commands.specs.declared.inputs.Doing.TheVariants.{Capture, Start}
use Rattle.folder_questions.specs.Asked.{AsksItem}
use Rattle.folder_questions.specs.Packs.{AsksWhere}
use Rattle.folder_questions.specs.ContentsPlans.{AnswersContentsPlan}
use Rattle.folder_questions.specs.EachSitePlans.{AnswersEachSitePlan}
use Rattle.folder_questions.specs.GapsPlans.{AnswersGapsPlan, AsksGapsPlan, RefusesGapsPlan}
use Rattle.folder_questions.specs.PacksPlans.{AnswersPacksPlan, RefusesWherePlan}
use Rattle.folder_questions.specs.Plans.{RefusesItemPlan}
use Rattle.folder_questions.specs.declared.plans.Planned.{Planned}
use Rattle.folder_questions.specs.declared.plans.PlannedBatch.{PlannedBatch}
use Rattle.folder_questions.specs.declared.plans.PlannedInput.{PlannedInput}
use Rattle.command_line.specs.declared.plan_commands.Aim.{Aim}
use Rattle.command_line.specs.declared.plan_commands.Aim.TheVariants.{Contents, EachSite, Gaps, Packs}

-- ---- what is found

module _ {F K : Type 0} (does : F → FileCall K → F → Type 0) (shown : K → Option Record) (stored : K → Type 0) (folder : List ℕ) where
  -- the calls by which the records are asked for a plan
  abbrev pub PlansBy : Aim → List Site → Planned → List (FileCall K) → Type 0
  PlansBy (Contents site item) =
      AsksAll {Q = ℕ × List ℕ} shown stored folder (RefusesItemPlan site.now item) (λ sites asked. AsksItem site.now item sites asked.0 asked.1)
      (λ asked rs plan. AnswersContentsPlan rs asked.0 asked.1 plan)
  PlansBy (EachSite site item) =
      AsksAll {Q = ℕ × List ℕ} shown stored folder (RefusesItemPlan site.now item) (λ sites asked. AsksItem site.now item sites asked.0 asked.1)
      (λ asked rs plan. AnswersEachSitePlan rs asked.0 asked.1 plan)
  PlansBy (Gaps site recall) =
      AsksAll {Q = ℕ × Recall} shown stored folder (RefusesGapsPlan site.now recall.now) (λ sites asked. AsksGapsPlan site.now recall.now sites asked.0 asked.1)
      (λ asked rs plan. AnswersGapsPlan rs asked.0 asked.1 plan)
  PlansBy (Packs site) =
      AsksAll {Q = Option ℕ} shown stored folder (RefusesWherePlan (option_map (λ t. t.now) site)) (AsksWhere (option_map (λ t. t.now) site))
      (λ asked rs plan. AnswersPacksPlan rs asked plan)

  -- a plan was found so, or a fault broke that off; no site was changed
  abbrev pub FindsPlan : Aim → F → F → Result (List Site × Planned) Fault → Type 0
  FindsPlan aim old new came =
      IfOk came (λ told. Led does old new (PlansBy aim told.0 told.1)) × IfErr came (λ fault. Led does old new (EndsInVain shown folder fault))

-- ---- what sites take

-- a document is captured; an item, which is given as its key, has a recall started
abbrev pub doing_of : Task → Doing
doing_of tasks.Capture = Capture
doing_of tasks.Start = Start Key

abbrev pub planned_input : Task → PlannedInput → Input
planned_input task i = record { doing = doing_of task; source = string_bytes i.name; bytes = string_bytes i.text }

-- the inputs of a part of a plan
abbrev pub inputs_of : PlannedBatch → InputsFrom
inputs_of part = Texts part.task (map (planned_input part.task) part.inputs.items)
