-- What it comes to when it is asked how recalls stand.
use Rattle.std.specs.Prelude.{◌≡◌, Bool, List, None}
use Rattle.frame_core.specs.Numbers.{Recall}
use Rattle.query_core.specs.Recalls.{AreStatuses, IsDetail}
use Rattle.recall_outcomes.specs.declared.notes.Notes.{Notes}
use Rattle.recall_outcomes.specs.declared.notes.Notes.TheVariants.{Nothing}
use Rattle.recall_outcomes.specs.declared.outcomes.CommandRefusal.TheVariants.{UnknownRecall}
use Rattle.recall_outcomes.specs.declared.outcomes.Outcome.{Outcome}
use Rattle.recall_outcomes.specs.declared.outcomes.Outcome.TheVariants.{Standing, Waiting, Refused}
use Rattle.site_core.specs.Records.{Record}
use Rattle.site_recovery.specs.Looks.{own, world_of}
use Rattle.site_folders.specs.Refusals.{IsRefusal}
use Rattle.folder_questions.specs.Beside.{Beside}

-- how all recalls stand, and whether the status tells that one is open; with a note of how the records contradict each other
abbrev pub AnswersRecalls : List Record → Bool → Outcome → Notes → Type 0
AnswersRecalls records coded (Standing recalls told) notes =
    (told ≡ coded) × AreStatuses records recalls.items × Beside records (λ noted. noted ≡ Nothing) notes
AnswersRecalls records coded other notes = ⊥

-- how a recall stands, and whether the status tells that it is open, with such a note; or no site began it
abbrev pub AnswersRecall : List Record → Recall → Bool → Outcome → Notes → Type 0
AnswersRecall records r coded (Waiting detail told) notes =
    (told ≡ coded) × IsDetail records r detail × Beside records (λ noted. noted ≡ Nothing) notes
AnswersRecall records r coded (Refused whys) notes =
    (own (world_of records) r.site r.number ≡ None) × IsRefusal UnknownRecall (Refused whys) × (notes ≡ Nothing)
AnswersRecall records r coded other notes = ⊥
