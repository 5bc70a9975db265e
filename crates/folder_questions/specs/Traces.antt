-- What a trace of an item comes to.
use Rattle.std.specs.Prelude.{◌≡◌, ℕ, Bool, true, false, List}
use Rattle.report_core.specs.Traces.{IsBackTrace, IsKnownAt, IsTrace}
use Rattle.recall_outcomes.specs.declared.notes.Notes.{Notes}
use Rattle.recall_outcomes.specs.declared.notes.Notes.TheVariants.{Nothing}
use Rattle.recall_outcomes.specs.declared.outcomes.CommandRefusal.TheVariants.{Step}
use Rattle.recall_outcomes.specs.declared.outcomes.Outcome.{Outcome}
use Rattle.recall_outcomes.specs.declared.outcomes.Outcome.TheVariants.{Traced, TracedBack, Refused}
use Rattle.recall_outcomes.specs.declared.outcomes.Ways.{Ways}
use Rattle.site_core.specs.Records.{Record}
use Rattle.site_core.specs.declared.outcomes.Refusal.TheVariants.{UnknownItem}
use Rattle.site_recovery.specs.Looks.{world_of}
use Rattle.site_folders.specs.Refusals.{IsRefusal}
use Rattle.folder_questions.specs.Beside.{Beside}
use Rattle.folder_questions.specs.MissedNotes.{NotesMissed}
use Rattle.folder_questions.specs.TrailEvents.{TellsEvents, TellsShown, steps_from, steps_to}

-- the site doesn't know the item, and that is the refusal
abbrev pub RefusesUnknown : List Record → ℕ → List ℕ → Outcome → Type 0
RefusesUnknown records site item outcome = (IsKnownAt (world_of records) site item → ⊥) × IsRefusal (Step UnknownItem) outcome

-- The item at the site is traced to where it went, or back to where it came from, and its ways, and the events behind them and behind what left, are told
-- as they were asked for; or the site doesn't know it. It is noted how the records contradict each other, and else, of where it went, what is missed, and what lies in it.
abbrev pub AnswersTrace : List Record → ℕ → List ℕ → Bool → Ways → Bool → Outcome → Notes → Type 0
AnswersTrace records site item false ways events (Traced trace told behind) notes =
    (told ≡ ways) × IsTrace records site item trace × IsKnownAt (world_of records) site item × TellsShown records events (steps_to ways) trace.trails trace.outside behind
    × Beside records (NotesMissed records trace.pairs trace.root) notes
AnswersTrace records site item true ways events (TracedBack trace told behind) notes =
    (told ≡ ways) × IsBackTrace records site item trace × IsKnownAt (world_of records) site item × TellsEvents records events (steps_from ways) trace.trails behind
    × Beside records (λ noted. noted ≡ Nothing) notes
AnswersTrace records site item back ways events (Refused whys) notes = RefusesUnknown records site item (Refused whys) × (notes ≡ Nothing)
AnswersTrace records site item back ways events other notes = ⊥
