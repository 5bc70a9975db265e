-- What comes of one input at a site: a document that it captures, or a text that spells an item of which it starts a recall.
use Rattle.std.specs.Prelude.{◌≡◌, ◌⊎◌, ℕ, List, Option, Some, None, Result, Ok, Err, IsUtf8, string_bytes}
use Rattle.event_json.specs.declared.untraced.Untraced.{Untraced}
use Rattle.item_spellings.specs.Keys.{reading_by}
use Rattle.item_spellings.specs.declared.faults.ScanFault.TheVariants.{NoElements}
use Rattle.item_spellings.specs.declared.faults.SpellingFault.{SpellingFault}
use Rattle.item_spellings.specs.declared.faults.SpellingFault.TheVariants.{NoEpc, NoKey, NoScan}
use Rattle.item_spellings.specs.declared.spellings.Spelling.{Spelling}
use Rattle.item_spellings.specs.declared.spellings.Spelling.TheVariants as spellings
use Rattle.recall_outcomes.specs.Batches.{up}
use Rattle.recall_outcomes.specs.declared.batches.InputOutcome.{InputOutcome}
use Rattle.recall_outcomes.specs.declared.batches.InputOutcome.TheVariants.{Captured, Started, Refused}
use Rattle.recall_outcomes.specs.declared.faults.Fault.{Fault}
use Rattle.recall_outcomes.specs.declared.faults.Fault.TheVariants.{NoMemory}
use Rattle.recall_outcomes.specs.declared.outcomes.CommandRefusal.TheVariants.{Step}
use Rattle.site_core.specs.Records.{Record}
use Rattle.site_core.specs.declared.inputs.SiteInput.{SiteInput}
use Rattle.site_core.specs.declared.inputs.SiteInput.TheVariants.{Capture, Start}
use Rattle.site_core.specs.declared.outcomes.Effects.{Effects}
use Rattle.site_core.specs.declared.outcomes.Effects.TheVariants as effects
use Rattle.site_core.specs.declared.outcomes.Refusal.{Refusal}
use Rattle.site_folders.specs.Missing.{CountsOwn}
use Rattle.site_folders.specs.Refusals.{refusal_of}
use Rattle.folder_commands.specs.Steps.{FailsStep, Steps}
use Rattle.folder_commands.specs.Untraced.{TellsUntraced, with_untraced}
use Rattle.folder_commands.specs.declared.inputs.Doing.{Doing}
use Rattle.folder_commands.specs.declared.inputs.Doing.TheVariants as doings
use Rattle.folder_commands.specs.declared.inputs.Given.{Given}
use Rattle.folder_commands.specs.declared.inputs.InputNotes.{InputNotes}

-- an input: what the site does with it, where it comes from, and its bytes
pub record Input : Type 0 where
  pub doing : Doing
  pub source : List ℕ
  pub bytes : List ℕ

-- as the code holds it
abbrev pub input_of : Given → Input
input_of given = record { doing = given.doing; source = string_bytes given.source; bytes = given.bytes.items }

-- the effects of a capture and of a start are of these kinds alone
abbrev pub came_of : Effects → Option InputOutcome
came_of (effects.Captured fresh known skipped) = Some (Captured fresh known skipped)
came_of (effects.Started r new messages ended) = Some (Started r new messages ended)
came_of other = None

-- the input came to what its step did, or to its refusal
abbrev pub TellsInput : Result Effects Refusal → InputOutcome → Type 0
TellsInput (Ok effects) came = came_of effects ≡ Some came
TellsInput (Err why) came = came ≡ Refused (Step why)

-- why a text that isn't UTF-8 spells no item
abbrev pub unread : Spelling → SpellingFault
unread spellings.Epc = NoEpc
unread spellings.Key = NoKey
unread spellings.Scan = NoScan NoElements

-- what a text spells in this way
abbrev pub ReadsAs : Spelling → List ℕ → Result (List ℕ) SpellingFault → Type 0
ReadsAs spelling text read = (IsUtf8 text × (read ≡ reading_by spelling text)) ⊎ ((IsUtf8 text → ⊥) × (read ≡ Err (unread spelling)))

-- the step that an input asks of its site, if it spells an item
abbrev pub AsksStep : Doing → List ℕ → SiteInput → Type 0
AsksStep doings.Capture bytes input = input ≡ Capture bytes
AsksStep (doings.Start spelling) bytes input = (item : List ℕ) × ReadsAs spelling bytes (Ok item) × (input ≡ Start item)

-- or why it spells none
abbrev pub SpellsNone : Doing → List ℕ → SpellingFault → Type 0
SpellsNone doings.Capture bytes fault = ⊥
SpellsNone (doings.Start spelling) bytes fault = ReadsAs spelling bytes (Err fault)

-- from a record an input came to this by its step, which leaves this record
pub record ComesByStep (doing : Doing) (old : Record) (bytes : List ℕ) (came : InputOutcome) (new : Record) : Type 0 where
  pub input : SiteInput
  pub asks : AsksStep doing bytes input
  pub done : Result Effects Refusal
  pub stepped : Steps old input (Some new) done
  pub told : TellsInput done came

-- by its step, or to a refusal, since it spells no item
abbrev pub ComesTo : Doing → Record → List ℕ → InputOutcome → Record → Type 0
ComesTo doing old bytes came new =
    ComesByStep doing old bytes came new ⊎ ((fault : SpellingFault) × SpellsNone doing bytes fault × (came ≡ Refused (refusal_of fault)) × (new ≡ old))

-- of an item of which a recall was started it is noted how many lie in it by the packings of the record
abbrev pub NotesItem : Record → List ℕ → InputOutcome → InputNotes → InputNotes → Type 0
NotesItem old item (Started r new messages ended) before after = (n : ℕ) × CountsOwn old item n × (after ≡ record before { inside = up before.inside n })
NotesItem old item other before after = after ≡ before

-- the same of the item that a text spells
abbrev pub NotesSpelled : Spelling → Record → List ℕ → InputOutcome → InputNotes → InputNotes → Type 0
NotesSpelled spelling old text (Started r new messages ended) before after =
    (item : List ℕ) × ReadsAs spelling text (Ok item) × NotesItem old item (Started r new messages ended) before after
NotesSpelled spelling old text other before after = after ≡ before

-- what a document that was captured says that isn't traced is noted, too, and destinations that are no traced site; any other input
-- adds nothing
abbrev pub AreNoted : Doing → Record → List ℕ → InputOutcome → InputNotes → InputNotes → Type 0
AreNoted doings.Capture old document (Captured fresh known skipped) before after =
    (untraced : Untraced) × (places : List (List ℕ)) × TellsUntraced old.sites document before.places untraced places
    × (after ≡ record before { untraced = with_untraced before.untraced untraced; places = places })
AreNoted doings.Capture old document other before after = after ≡ before
AreNoted (doings.Start spelling) old text came before after = NotesSpelled spelling old text came before after

-- From a record an input came to nothing, with this shown then and these records that may be opened: memory ran out before its
-- step, or its step failed.
abbrev pub FailsInput : Doing → Record → List ℕ → Option Record → (Record → Type 0) → Fault → Type 0
FailsInput doing old bytes shown may fault =
    ((fault ≡ NoMemory) × (shown ≡ Some old)) ⊎ ((input : SiteInput) × AsksStep doing bytes input × FailsStep old input shown may fault)
