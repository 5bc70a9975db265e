-- Plans of recalls of an item at each site of which an event names it.
use Rattle.std.specs.Prelude.{◌≡◌, ◌⊎◌, ◌==◌, ◌||◌, ℕ, Bool, List, [], ◌∷◌, if◌then◌else◌}
use Rattle.std.specs.List.{list_any}
use Rattle.query_core.specs.Lists.{AreAllBy}
use Rattle.recall_outcomes.specs.declared.batches.Task.TheVariants.{Start}
use Rattle.report_core.specs.Traces.{IsKnownAt}
use Rattle.site_core.specs.Records.{Record}
use Rattle.site_recovery.specs.Looks.{world_of}
use Rattle.trace_core.specs.Places.{names_item}
use Rattle.folder_questions.specs.Lots.{Names}
use Rattle.folder_questions.specs.Plans.{Outline, outlined, outline_cmp, outlines}
use Rattle.folder_questions.specs.Traces.{RefusesUnknown}
use Rattle.folder_questions.specs.declared.plans.Planned.{Planned}
use Rattle.folder_questions.specs.declared.plans.Planned.TheVariants.{Batches, Refused}

-- a recall of the item is started at the site that is asked for, or at one of which an event names it
abbrev pub IsStartOf : List Record → ℕ → List ℕ → Outline → Type 0
IsStartOf records asked item (site, task, texts) = (task ≡ Start) × (texts ≡ item ∷ []) × ((site ≡ asked) ⊎ Names (world_of records site) item)

-- so at all of them, in the order of the sites' numbers
abbrev pub ArePlannedStarts : List Record → ℕ → List ℕ → List Outline → Type 0
ArePlannedStarts records asked item plan = AreAllBy outline_cmp (IsStartOf records asked item) plan

-- the site knows the item, and recalls of it are started; or the site doesn't know it
abbrev pub AnswersEachSitePlan : List Record → ℕ → List ℕ → Planned → Type 0
AnswersEachSitePlan records site item (Batches plan) = IsKnownAt (world_of records) site item × ArePlannedStarts records site item (outlines plan.items)
AnswersEachSitePlan records site item (Refused outcome) = RefusesUnknown records site item outcome

-- ---- step by step

-- this is the record of the site that is asked for, or of one of which an event names the item
abbrev pub starts_one : ℕ → List ℕ → Record → Bool
starts_one asked item r = (r.engagement.me == asked) || list_any (names_item item) r.captured.events

-- the start at the site of the record, if there is one
abbrev pub started_at : ℕ → List ℕ → Record → List Outline
started_at asked item r = outlined r.engagement.me Start (if starts_one asked item r then item ∷ [] else [])
