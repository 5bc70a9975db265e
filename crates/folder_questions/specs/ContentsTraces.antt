-- What a trace of an item and of what lies in it comes to.
use Rattle.std.specs.Prelude.{◌≡◌, ℕ, List, None}
use Rattle.gap_core.specs.Inside.{AreInside}
use Rattle.report_core.specs.Traces.{IsContentsTrace, IsKnownAt}
use Rattle.recall_outcomes.specs.declared.notes.Notes.{Notes}
use Rattle.recall_outcomes.specs.declared.notes.Notes.TheVariants.{Nothing}
use Rattle.recall_outcomes.specs.declared.outcomes.Outcome.{Outcome}
use Rattle.recall_outcomes.specs.declared.outcomes.Outcome.TheVariants.{Traced, Refused}
use Rattle.recall_outcomes.specs.declared.outcomes.Ways.{Ways}
use Rattle.site_core.specs.Records.{Record}
use Rattle.site_recovery.specs.Laws.{captured_of}
use Rattle.site_recovery.specs.Looks.{world_of}
use Rattle.folder_questions.specs.Beside.{Beside}
use Rattle.folder_questions.specs.MissedNotes.{NotesMissedAlone}
use Rattle.folder_questions.specs.Traces.{RefusesUnknown}

-- The item at the site and what lies in it are traced as one to where they went, and the ways are told as they were asked for; or the site doesn't know it. It
-- is noted how the records contradict each other, and else what is missed.
abbrev pub AnswersContentsTrace : List Record → ℕ → List ℕ → Ways → Outcome → Notes → Type 0
AnswersContentsTrace records site item ways (Traced trace told None) notes =
    (told ≡ ways) × IsKnownAt (world_of records) site item
    × ((inside : List (List ℕ)) × AreInside (captured_of records) item inside × IsContentsTrace records site item inside trace)
    × Beside records (NotesMissedAlone records trace.pairs) notes
AnswersContentsTrace records site item ways (Refused whys) notes = RefusesUnknown records site item (Refused whys) × (notes ≡ Nothing)
AnswersContentsTrace records site item ways other notes = ⊥
