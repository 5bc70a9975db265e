-- What it comes to when it is asked what the start of a recall would do.
use Rattle.std.specs.Prelude.{◌≡◌, ℕ, List}
use Rattle.keeper_core.specs.Keeping.{IsRefusedFor}
use Rattle.recall_outcomes.specs.declared.notes.Notes.{Notes}
use Rattle.recall_outcomes.specs.declared.outcomes.CommandRefusal.TheVariants.{Step}
use Rattle.recall_outcomes.specs.declared.outcomes.Outcome.{Outcome}
use Rattle.recall_outcomes.specs.declared.outcomes.Outcome.TheVariants.{WouldStart, Refused}
use Rattle.site_core.specs.Records.{Record}
use Rattle.site_core.specs.Steps.{Does}
use Rattle.site_core.specs.declared.inputs.SiteInput.{SiteInput}
use Rattle.site_core.specs.declared.inputs.SiteInput.TheVariants.{Start}
use Rattle.site_core.specs.declared.outcomes.Effects.{Effects}
use Rattle.site_core.specs.declared.outcomes.Effects.TheVariants.{Started}
use Rattle.site_core.specs.declared.outcomes.Refusal.{Refusal}
use Rattle.site_core.specs.declared.steps.Stepped.{Stepped}
use Rattle.site_core.specs.declared.steps.Stepped.TheVariants.{Same, Next}
use Rattle.site_folders.specs.Refusals.{IsRefusal}
use Rattle.site_recovery.specs.Looks.{world_of}
use Rattle.folder_questions.specs.Beside.{Beside}
use Rattle.folder_questions.specs.MissedNotes.{NotesMissedFrom}

-- how many items a start quarantines, and how many messages it numbers
abbrev pub TellsStart : Effects → Outcome → Type 0
TellsStart (Started recall quarantined numbered ended) outcome = outcome ≡ WouldStart quarantined numbered
TellsStart other outcome = ⊥

-- the effects of a step that was made
abbrev pub effects_of : Stepped → Effects
effects_of (Same effects) = effects
effects_of (Next after effects) = effects

-- The step would have these effects in the record; or it would be refused.
abbrev pub AnswersStep : Record → SiteInput → Outcome → Type 0
AnswersStep r input (WouldStart quarantined messages) =
    (effects : Effects) × (after : Record) × Does r input effects after × TellsStart effects (WouldStart quarantined messages)
AnswersStep r input (Refused whys) = (why : Refusal) × IsRefusedFor r input why × IsRefusal (Step why) (Refused whys)
AnswersStep r input other = ⊥

-- So for the start of a recall of the item at the site. It is noted how the records contradict each other, and else what the recall would miss, and what lies in the item.
abbrev pub AnswersDryStart : List Record → ℕ → List ℕ → Outcome → Notes → Type 0
AnswersDryStart records site item outcome notes = AnswersStep (world_of records site) (Start item) outcome × Beside records (NotesMissedFrom records (record { site = site; item = item })) notes
