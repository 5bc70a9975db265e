-- What it comes to when it is asked what lies in an item.
use Rattle.std.specs.Prelude.{◌≡◌, ℕ, List}
use Rattle.gap_core.specs.Inside.{AreInside}
use Rattle.query_core.specs.Counted.{counted_items}
use Rattle.recall_outcomes.specs.declared.outcomes.Outcome.{Outcome}
use Rattle.recall_outcomes.specs.declared.outcomes.Outcome.TheVariants.{Known, Refused}
use Rattle.report_core.specs.Traces.{IsKnownAt}
use Rattle.site_core.specs.Records.{Record}
use Rattle.site_recovery.specs.Laws.{captured_of}
use Rattle.site_recovery.specs.Looks.{world_of}
use Rattle.folder_questions.specs.Traces.{RefusesUnknown}

-- The items that lie in it and whose keys contain the text, in order, each with how many events of the site name it; or the site doesn't know the item.
abbrev pub AnswersContents : List Record → ℕ → List ℕ → List ℕ → Outcome → Type 0
AnswersContents records site item text (Known told items) =
    (told ≡ site) × IsKnownAt (world_of records) site item
    × (inside : List (List ℕ)) × AreInside (captured_of records) item inside × (items.items ≡ counted_items (world_of records site).captured.events text inside)
AnswersContents records site item text (Refused whys) = RefusesUnknown records site item (Refused whys)
AnswersContents records site item text other = ⊥
