-- Plans of recalls of an item and of all that lies in it.
use Rattle.std.specs.Prelude.{◌≡◌, ℕ, List, ◌∷◌}
use Rattle.gap_core.specs.Inside.{AreInside}
use Rattle.recall_outcomes.specs.declared.batches.Task.TheVariants.{Start}
use Rattle.report_core.specs.Traces.{IsKnownAt}
use Rattle.site_core.specs.Records.{Record}
use Rattle.site_recovery.specs.Laws.{captured_of}
use Rattle.site_recovery.specs.Looks.{world_of}
use Rattle.folder_questions.specs.Plans.{outlined, outlines}
use Rattle.folder_questions.specs.Traces.{RefusesUnknown}
use Rattle.folder_questions.specs.declared.plans.Planned.{Planned}
use Rattle.folder_questions.specs.declared.plans.Planned.TheVariants.{Batches, Refused}

-- a recall of the item, and of each that lies in it; or the site doesn't know it
abbrev pub AnswersContentsPlan : List Record → ℕ → List ℕ → Planned → Type 0
AnswersContentsPlan records site item (Batches plan) =
    IsKnownAt (world_of records) site item
    × (inside : List (List ℕ)) × AreInside (captured_of records) item inside × (outlines plan.items ≡ outlined site Start (item ∷ inside))
AnswersContentsPlan records site item (Refused outcome) = RefusesUnknown records site item outcome
