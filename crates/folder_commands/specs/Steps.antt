-- What a step of one site comes to, and what `capture` and `start` tell of it.
use Rattle.std.specs.Prelude.{◌≡◌, ◌⊎◌, ⊤, ℕ, List, [], ◌∷◌, Option, Some, None, Result, Ok, Err}
use Rattle.event_json.specs.Sites.{Site, named}
use Rattle.event_json.specs.declared.untraced.Untraced.{Untraced}
use Rattle.item_spellings.specs.Keys.{item_reading}
use Rattle.item_spellings.specs.declared.faults.SpellingFault.{SpellingFault}
use Rattle.item_spellings.specs.declared.spellings.Spelled.{Spelled}
use Rattle.keeper_core.specs.Keeping.{IsRefusedFor, MayBeOldOrNew, Rises}
use Rattle.recall_outcomes.specs.declared.faults.Fault.{Fault}
use Rattle.recall_outcomes.specs.declared.faults.Fault.TheVariants.{NoMemory, Device, Store}
use Rattle.recall_outcomes.specs.declared.notes.Notes.{Notes}
use Rattle.recall_outcomes.specs.declared.notes.Notes.TheVariants as notes
use Rattle.recall_outcomes.specs.declared.outcomes.CommandRefusal.TheVariants.{Step}
use Rattle.recall_outcomes.specs.declared.outcomes.Outcome.{Outcome}
use Rattle.recall_outcomes.specs.declared.outcomes.Outcome.TheVariants.{Stepped}
use Rattle.recall_outcomes.specs.declared.outcomes.Output.{Output}
use Rattle.site_core.specs.Records.{Record}
use Rattle.site_core.specs.Steps.{Does}
use Rattle.site_core.specs.declared.inputs.SiteInput.{SiteInput}
use Rattle.site_core.specs.declared.inputs.SiteInput.TheVariants.{Capture, Start}
use Rattle.site_core.specs.declared.outcomes.Effects.{Effects}
use Rattle.site_core.specs.declared.outcomes.Refusal.{Refusal}
use Rattle.site_folders.specs.Faults.{EndsInVain}
use Rattle.site_folders.specs.FileCalls.{FileCall, ClosedSite, ReadFile}
use Rattle.site_folders.specs.Keepers.{KeepsSite, opens_site}
use Rattle.site_folders.specs.Lists.{AfterList}
use Rattle.site_folders.specs.Missing.{CountsOwn, NotesInside}
use Rattle.site_folders.specs.Refusals.{IsNoSite, IsRefusal, refusal_of}
use Rattle.folder_commands.specs.Untraced.{TellsUntraced}

-- ---- a step

-- The record took the step, and the site shows the one after it; or the step is refused, and the record is as it was.
abbrev pub Steps : Record → SiteInput → Option Record → Result Effects Refusal → Type 0
Steps old input (Some new) (Ok effects) = Does old input effects new
Steps old input (Some new) (Err why) = IsRefusedFor old input why × (new ≡ old)
Steps old input None done = ⊥

-- Where a step in the record old has no outcome: what is shown then, and what may be opened. Without memory nothing changed;
-- after a failure of the device or of the store the site is closed, to be opened in the record old or in the one after the
-- input, and in no third. An open site has no other fault.
abbrev pub FailsStep : Record → SiteInput → Option Record → (Record → Type 0) → Fault → Type 0
FailsStep old input (Some new) may NoMemory = new ≡ old
FailsStep old input None may Device = MayBeOldOrNew old input may
FailsStep old input None may Store = MayBeOldOrNew old input may
FailsStep old input shown may fault = ⊥

-- the outcome has the effects of the step, or its refusal alone
abbrev pub TellsStep : Result Effects Refusal → Outcome → Type 0
TellsStep (Ok effects) outcome = outcome ≡ Stepped effects
TellsStep (Err why) outcome = IsRefusal (Step why) outcome

-- of a document that was captured it is noted that this isn't traced, with these destinations, and of one that was refused nothing
abbrev pub NotesDone : Untraced → List (List ℕ) → Result Effects Refusal → Notes → Type 0
NotesDone untraced places (Ok effects) (notes.Untraced told) = (told.counts ≡ untraced) × (told.places.items ≡ places)
NotesDone untraced places (Ok effects) other = ⊥
NotesDone untraced places (Err why) noted = noted ≡ notes.Nothing

-- and that is what it says that isn't, with destinations that are no traced site: all of them, or five
abbrev pub IsUntraced : List Site → List ℕ → Result Effects Refusal → Untraced → List (List ℕ) → Type 0
IsUntraced sites document (Ok effects) untraced places = TellsUntraced sites document [] untraced places
IsUntraced sites document (Err why) untraced places = ⊤

-- of a recall that was started it is noted how many items lie in its item, if any do, and of one that was refused nothing
abbrev pub NotesStart : ℕ → Result Effects Refusal → Notes → Type 0
NotesStart inside (Ok effects) noted = NotesInside inside noted
NotesStart inside (Err why) noted = noted ≡ notes.Nothing

-- ---- the commands

module _ {K : Type 0} (shown : K → Option Record) (stored : K → Type 0) (folder : List ℕ) (sites : List Site) where
  -- the file of the site was opened, its record took the step or refused it, and the file was closed, on which a crash leaves
  -- the record that is shown then
  pub record StepsAt (site : ℕ) (input : SiteInput) (done : Result Effects Refusal) (calls : List (FileCall K)) : Type 0 where
    pub keeper : K
    pub before : Record
    pub opened : KeepsSite shown stored sites site keeper before
    pub after : K
    pub stepped : Steps before input (shown after) done
    pub lasts : stored after
    pub calls_are : calls ≡ opens_site folder sites site keeper ∷ ClosedSite after ∷ []

  -- the document's file was read, and it was captured, or refused; it is noted what of it isn't traced, and where it went then
  pub record CapturesFile (file : List ℕ) (site : ℕ) (output : Output) (calls : List (FileCall K)) : Type 0 where
    pub document : List ℕ
    pub done : Result Effects Refusal
    pub rest : List (FileCall K)
    pub steps : StepsAt site (Capture document) done rest
    pub told : TellsStep done output.outcome
    pub untraced : Untraced
    pub places : List (List ℕ)
    pub is_untraced : IsUntraced sites document done untraced places
    pub noted : NotesDone untraced places done output.notes
    pub calls_are : calls ≡ ReadFile file document ∷ rest

  -- a recall of the item was started, or refused; it is noted what lies in the item, by the site's own packings
  pub record StartsRecall (item : List ℕ) (site : ℕ) (output : Output) (calls : List (FileCall K)) : Type 0 where
    pub done : Result Effects Refusal
    pub steps : StepsAt site (Start item) done calls
    pub told : TellsStep done output.outcome
    pub inside : ℕ
    pub counts : CountsOwn steps.before item inside
    pub noted : NotesStart inside done output.notes

  -- a text that spells no item is refused without a further call
  abbrev pub StartsItem : Result (List ℕ) SpellingFault → ℕ → Output → List (FileCall K) → Type 0
  StartsItem (Ok item) site output calls = StartsRecall item site output calls
  StartsItem (Err fault) site output calls = IsRefusal (refusal_of fault) output.outcome × (output.notes ≡ notes.Nothing) × (calls ≡ [])

-- at the site of a name; a name that isn't listed is refused without a further call
abbrev pub AtSite : {K : Type 0} → List ℕ → Option ℕ → (ℕ → Output → List (FileCall K) → Type 0) → Output → List (FileCall K) → Type 0
AtSite name None Task output calls = IsNoSite name output.outcome × (output.notes ≡ notes.Nothing) × (calls ≡ [])
AtSite name (Some site) Task output calls = Task site output calls

module _ {K : Type 0} (shown : K → Option Record) (stored : K → Type 0) (folder : List ℕ) where
  -- a document is captured
  abbrev pub CapturesAt : List ℕ → List ℕ → Output → List (FileCall K) → Type 0
  CapturesAt name file output calls =
      AfterList folder (λ sites rest. (output.sites ≡ sites) × AtSite name (named sites name) (CapturesFile shown stored folder sites file) output rest) calls

  -- a recall is started
  abbrev pub StartsAt : List ℕ → Spelled → Output → List (FileCall K) → Type 0
  StartsAt name item output calls =
      AfterList folder
      (λ sites rest. (output.sites ≡ sites) × AtSite name (named sites name) (StartsItem shown stored folder sites (item_reading item)) output rest)
      calls

-- ---- where they have no outcome

module _ {K : Type 0} (shown : K → Option Record) (may : K → Record → Type 0) (failed : K → ℕ) (stored : K → Type 0) (folder : List ℕ) where
  -- the file of the site was opened, the fault is that of its step, and the file was closed, on which a crash leaves what is
  -- shown then, or may be opened; the device is at fault only where it failed once more
  pub record BreaksStep (sites : List Site) (site : ℕ) (input : SiteInput) (fault : Fault) (calls : List (FileCall K)) : Type 0 where
    pub keeper : K
    pub before : Record
    pub opened : KeepsSite shown stored sites site keeper before
    pub after : K
    pub broke : FailsStep before input (shown after) (may after) fault
    pub caused : fault ≡ Device → Rises (failed keeper) (failed after)
    pub lasts : stored after
    pub calls_are : calls ≡ opens_site folder sites site keeper ∷ ClosedSite after ∷ []

  -- the document's file was read, and the step that captures it failed
  pub record BreaksCapture (name file : List ℕ) (fault : Fault) (sites : List Site) (calls : List (FileCall K)) : Type 0 where
    pub site : ℕ
    pub known : named sites name ≡ Some site
    pub document : List ℕ
    pub rest : List (FileCall K)
    pub step : BreaksStep sites site (Capture document) fault rest
    pub calls_are : calls ≡ ReadFile file document ∷ rest

  -- the step that starts a recall of the item failed
  pub record BreaksStart (name : List ℕ) (text : Spelled) (fault : Fault) (sites : List Site) (calls : List (FileCall K)) : Type 0 where
    pub site : ℕ
    pub known : named sites name ≡ Some site
    pub item : List ℕ
    pub read : item_reading text ≡ Ok item
    pub step : BreaksStep sites site (Start item) fault calls

  -- a capture has no outcome: nothing was changed, or its step failed
  abbrev pub CaptureFails : List ℕ → List ℕ → Fault → List (FileCall K) → Type 0
  CaptureFails name file fault calls = EndsInVain shown folder fault calls ⊎ AfterList folder (BreaksCapture name file fault) calls

  -- nor has the start of a recall
  abbrev pub StartFails : List ℕ → Spelled → Fault → List (FileCall K) → Type 0
  StartFails name text fault calls = EndsInVain shown folder fault calls ⊎ AfterList folder (BreaksStart name text fault) calls
