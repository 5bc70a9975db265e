-- what comes of an input
use Rattle.std.proofs.Common.{◌≡◌, ◌⊎◌, ℕ, List, inl, inr, refl, sym, ap, ◌∙◌, subst, Bor, Option, Some, None, Result, Ok, Err}
use Rattle.std.specs.Prelude.{IsUtf8}
use Rattle.item_spellings.specs.Keys.{item_reading, reading_by}
use Rattle.item_spellings.specs.declared.faults.SpellingFault.{SpellingFault}
use Rattle.item_spellings.specs.declared.spellings.Spelling.{Spelling}
use Rattle.event_json.specs.declared.untraced.Untraced.{Untraced}
use Rattle.recall_outcomes.specs.Batches.{up}
use Rattle.recall_outcomes.specs.declared.batches.InputOutcome.{InputOutcome}
use Rattle.recall_outcomes.specs.declared.batches.InputOutcome.TheVariants as inputs
use Rattle.recall_outcomes.specs.declared.faults.Fault.{Fault}
use Rattle.recall_outcomes.specs.declared.faults.Fault.TheVariants.{Closed}
use Rattle.site_core.specs.Records.{Record}
use Rattle.site_core.specs.declared.inputs.SiteInput.{SiteInput}
use Rattle.site_core.specs.declared.inputs.SiteInput.TheVariants.{Capture, Start}
use Rattle.site_core.specs.declared.outcomes.Effects.{Effects}
use Rattle.site_core.specs.declared.outcomes.Effects.TheVariants as told
use Rattle.site_core.specs.declared.outcomes.Refusal.{Refusal}
use Rattle.world_core.specs.Parts.{came_in}
use Rattle.site_folders.specs.Missing.{CountsOwn}
use Rattle.folder_commands.specs.Inputs.{AreNoted, AsksStep, NotesItem, NotesSpelled, ReadsAs, came_of}
use Rattle.folder_commands.specs.Steps.{Steps}
use Rattle.folder_commands.specs.Untraced.{TellsUntraced, with_untraced}
use Rattle.folder_commands.specs.declared.inputs.Doing.{Doing}
use Rattle.folder_commands.specs.declared.inputs.Doing.TheVariants as doings
use Rattle.folder_commands.specs.declared.inputs.InputNotes.{InputNotes}

-- the input is a capture or a start
abbrev pub IsTaken : SiteInput → Type 0
IsTaken input = ((document : List ℕ) × (input ≡ Capture document)) ⊎ ((item : List ℕ) × (input ≡ Start item))

-- a step that an input asks for delivers no frame
pub asked_is_own : (doing : Doing) (bytes : List ℕ) (input : SiteInput) → AsksStep doing bytes input → came_in input ≡ None
asked_is_own doings.Capture bytes input is = ap came_in is
asked_is_own (doings.Start spelling) bytes input (item, reads, is) = ap came_in is

-- their effects are of these kinds
captures : (old : Record) (after : Option Record) (document : List ℕ) (effects : Effects) → Steps old (Capture document) after (Ok effects) → (came : InputOutcome) × (came_of effects ≡ Some came)
captures old None document effects does = absurd does
captures old (Some new) document (told.Captured fresh known skipped) does = (_, refl)
captures old (Some new) document (told.Started r quarantined numbered ended) does = absurd does
captures old (Some new) document (told.Received quarantined numbered owed) does = absurd does
captures old (Some new) document told.Repeat does = absurd does
captures old (Some new) document told.Stale does = absurd does
captures old (Some new) document told.Cleared does = absurd does
captures old (Some new) document (told.ParentDue m) does = absurd does
captures old (Some new) document (told.Ended r) does = absurd does

starts : (old : Record) (after : Option Record) (item : List ℕ) (effects : Effects) → Steps old (Start item) after (Ok effects) → (came : InputOutcome) × (came_of effects ≡ Some came)
starts old None item effects does = absurd does
starts old (Some new) item (told.Captured fresh known skipped) does = absurd does
starts old (Some new) item (told.Started r quarantined numbered ended) does = (_, refl)
starts old (Some new) item (told.Received quarantined numbered owed) does = absurd does
starts old (Some new) item told.Repeat does = absurd does
starts old (Some new) item told.Stale does = absurd does
starts old (Some new) item told.Cleared does = absurd does
starts old (Some new) item (told.ParentDue m) does = absurd does
starts old (Some new) item (told.Ended r) does = absurd does

-- and a closed site answers with none
pub comes_of_step : (shown after : Option Record) (input : SiteInput) (effects : Effects) (result : Result (Result Effects Refusal) Fault) → result ≡ Ok (Ok effects) → IsTaken input
    → ((old : Record) → shown ≡ Some old → Steps old input after (Ok effects)) → (shown ≡ None → result ≡ Err Closed) → (came : InputOutcome) × (came_of effects ≡ Some came)
comes_of_step None after input effects result is taken answers closed =
    let bad : ◌≡◌ {A = Result (Result Effects Refusal) Fault} (Ok (Ok effects)) (Err Closed) = sym is ∙ closed refl in
    absurd (let none : ⊥ = cc in none)
comes_of_step (Some old) after input effects result is (inl (document, e)) answers closed = captures old after document effects (subst (λ (i : SiteInput). Steps old i after (Ok effects)) e (answers old refl))
comes_of_step (Some old) after input effects result is (inr (item, e)) answers closed = starts old after item effects (subst (λ (i : SiteInput). Steps old i after (Ok effects)) e (answers old refl))

-- a step with an outcome leaves a record
pub steps_to : (old : Record) (after : Option Record) (input : SiteInput) (done : Result Effects Refusal) → Steps old input after done → (new : Record) × (after ≡ Some new) × Steps old input (Some new) done
steps_to old None input done steps = absurd steps
steps_to old (Some new) input done steps = (new, refl, steps)

-- what a document that was captured says that isn't traced is noted
pub document_noted : (old : Record) (document : List ℕ) (effects : Effects) (came : InputOutcome) (untraced : Untraced) (places : List (List ℕ)) (before after : InputNotes) → came_of effects ≡ Some came
    → TellsUntraced old.sites document before.places untraced places → after ≡ record before { untraced = with_untraced before.untraced untraced; places = places } → (new : Record)
    → Steps old (Capture document) (Some new) (Ok effects) → AreNoted doings.Capture old document came before after
document_noted old document (told.Captured fresh known skipped) came untraced places before after is found counts new does =
    subst (λ c. AreNoted doings.Capture old document c before after) (let same : inputs.Captured fresh known skipped ≡ came = cc in same) (untraced, places, found, counts)
document_noted old document (told.Started r quarantined numbered ended) came untraced places before after is found counts new does = absurd does
document_noted old document (told.Received quarantined numbered owed) came untraced places before after is found counts new does = absurd does
document_noted old document told.Repeat came untraced places before after is found counts new does = absurd does
document_noted old document told.Stale came untraced places before after is found counts new does = absurd does
document_noted old document told.Cleared came untraced places before after is found counts new does = absurd does
document_noted old document (told.ParentDue m) came untraced places before after is found counts new does = absurd does
document_noted old document (told.Ended r) came untraced places before after is found counts new does = absurd does

-- and so is how many items lie in one of which a recall was started
pub item_noted : (old : Record) (item : List ℕ) (effects : Effects) (came : InputOutcome) (n : ℕ) (before after : InputNotes) → came_of effects ≡ Some came → CountsOwn old item n
    → after ≡ record before { inside = up before.inside n } → (new : Record) → Steps old (Start item) (Some new) (Ok effects) → NotesItem old item came before after
item_noted old item (told.Captured fresh known skipped) came n before after is counted counts new does = absurd does
item_noted old item (told.Started r quarantined numbered ended) came n before after is counted counts new does =
    subst (λ c. NotesItem old item c before after) (let same : inputs.Started r quarantined numbered ended ≡ came = cc in same) (n, counted, counts)
item_noted old item (told.Received quarantined numbered owed) came n before after is counted counts new does = absurd does
item_noted old item told.Repeat came n before after is counted counts new does = absurd does
item_noted old item told.Stale came n before after is counted counts new does = absurd does
item_noted old item told.Cleared came n before after is counted counts new does = absurd does
item_noted old item (told.ParentDue m) came n before after is counted counts new does = absurd does
item_noted old item (told.Ended r) came n before after is counted counts new does = absurd does

-- of an item that a text spells
pub spelled_noted : (spelling : Spelling) (old : Record) (text item : List ℕ) (came : InputOutcome) (before after : InputNotes) → ReadsAs spelling text (Ok item)
    → NotesItem old item came before after → NotesSpelled spelling old text came before after
spelled_noted spelling old text item (inputs.Captured fresh known skipped) before after read noted = noted
spelled_noted spelling old text item (inputs.Started r new messages ended) before after read noted = (item, read, noted)
spelled_noted spelling old text item (inputs.Refused why) before after read noted = noted

-- a text that is UTF-8 was read
pub reads_text : (spelling : Spelling) (bytes : List ℕ) (text : Bor (List ℕ)) (read : Result (List ℕ) SpellingFault) → text.now ≡ bytes → IsUtf8 bytes
    → read ≡ item_reading (record { text = text; spelling = spelling }) → ReadsAs spelling bytes read
unfolding item_reading
reads_text spelling bytes text read same utf8 is = inl (utf8, is ∙ ap (reading_by spelling) same)
