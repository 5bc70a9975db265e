-- What a report of a recall comes to.
use Rattle.std.specs.Prelude.{◌≡◌, Bool, List, None, map}
use Rattle.frame_core.specs.Numbers.{Recall}
use Rattle.report_core.specs.Reports.{IsReport}
use Rattle.report_core.specs.TrailEvents.{or_no_pairs}
use Rattle.recall_outcomes.specs.declared.notes.Notes.{Notes}
use Rattle.recall_outcomes.specs.declared.notes.Notes.TheVariants.{Nothing}
use Rattle.recall_outcomes.specs.declared.outcomes.CommandRefusal.TheVariants.{UnknownRecall}
use Rattle.recall_outcomes.specs.declared.outcomes.Outcome.{Outcome}
use Rattle.recall_outcomes.specs.declared.outcomes.Outcome.TheVariants.{Reported, Refused}
use Rattle.recall_outcomes.specs.declared.outcomes.Ways.{Ways}
use Rattle.site_core.specs.Records.{Record}
use Rattle.site_recovery.specs.Looks.{own, world_of}
use Rattle.site_folders.specs.Refusals.{IsRefusal}
use Rattle.folder_questions.specs.Beside.{Beside}
use Rattle.folder_questions.specs.MissedNotes.{NotesMissed}
use Rattle.folder_questions.specs.TrailEvents.{TellsShown, steps_to}

-- The recall is reported, and its ways, and the events behind them and behind what left, are told as they were asked for, with a note of how the records contradict each other, and else of what is missed; or
-- it is refused, since no site began it.
abbrev pub AnswersReport : List Record → Recall → Ways → Bool → Outcome → Notes → Type 0
AnswersReport records r ways events (Reported of report told behind) notes =
    (of ≡ r) × (told ≡ ways) × IsReport records r report × TellsShown records events (steps_to ways) (map or_no_pairs report.trails) report.outside behind
    × Beside records (NotesMissed records report.pairs report.root) notes
AnswersReport records r ways events (Refused whys) notes =
    (own (world_of records) r.site r.number ≡ None) × IsRefusal UnknownRecall (Refused whys) × (notes ≡ Nothing)
AnswersReport records r ways events other notes = ⊥
