-- What the step of a site has to mean: each effect changes the record in its way, an answer says whether anything
-- changed, and each input has one outcome.
use Rattle.std.specs.Prelude.{◌≡◌, ◌≢◌, ◌⊎◌, ◌↔◌, ℕ, ◌+◌, ◌<◌, ◌≤◌, ◌^◌, Bool, IsTrue, IsFalse, IsSome, Some, None, Ok, List, length, Contains}
use Rattle.std.specs.FinMap.{get}
use Rattle.event_json.specs.Events.{Content}
use Rattle.event_json.specs.declared.documents.Doc.{Doc}
use Rattle.frame_core.specs.declared.frames.Frame.TheVariants as frames
use Rattle.frame_core.specs.declared.rows.Row.{Row}
use Rattle.frame_core.specs.Numbers.{Recall, Message}
use Rattle.scholten_core.specs.declared.outcomes.Signalled.{Signalled}
use Rattle.scholten_core.specs.declared.outcomes.Signalled.TheVariants as signals
use Rattle.scholten_core.specs.Replies.{BecomesParent, TellsBegun, TellsCleared}
use Rattle.site_core.specs.declared.inputs.SiteInput.{SiteInput}
use Rattle.site_core.specs.declared.inputs.SiteInput.TheVariants.{Capture, Start, Deliver}
use Rattle.site_core.specs.declared.outcomes.Effects.{Effects}
use Rattle.site_core.specs.declared.outcomes.Effects.TheVariants as effects
use Rattle.site_core.specs.declared.outcomes.Refusal.{Refusal}
use Rattle.site_core.specs.declared.outcomes.Refusal.TheVariants as refusals
use Rattle.site_core.specs.Quarantines.{HasNoEmptySet}
use Rattle.site_core.specs.Records.{Record}
use Rattle.site_core.specs.Steps.{Does, Refuses, IsReadAs, IsForSite, IsOwnMessage, changes}
use Rattle.site_core.specs.Ways.{GrowsBy, CountsNew, Opens, TakesMessage, ClearsRow}

-- Each effect in its way.

-- a document that is captured is that many fresh events, one after another
abbrev pub CapturesGrow : Type 0
CapturesGrow = (s t : Record) (bytes : List ℕ) (fresh known skipped : ℕ) → Does s (Capture bytes) (effects.Captured fresh known skipped) t → GrowsBy s fresh t

-- the site has what it had, and each event of the document; the answer counts them
pub record KeepsDocument (s t : Record) (bytes : List ℕ) (fresh known skipped : ℕ) : Type 0 where
  pub doc : Doc
  pub read : IsReadAs s.sites bytes (Ok doc)
  pub events : (e : Content) → Contains t.captured.events e ↔ (Contains s.captured.events e ⊎ Contains doc.events e)
  pub counts : fresh + known ≡ length doc.events
  pub skips : skipped ≡ doc.skipped

abbrev pub CapturesKeepTheDocument : Type 0
CapturesKeepTheDocument = (s t : Record) (bytes : List ℕ) (fresh known skipped : ℕ) → Does s (Capture bytes) (effects.Captured fresh known skipped) t → KeepsDocument s t bytes fresh known skipped

-- a recall that is started opens, and the answer says so
abbrev pub StartsOpen : Type 0
StartsOpen =
    (s t : Record) (root : List ℕ) (recall : Recall) (quarantined numbered : ℕ) (ended : Bool)
    → Does s (Start root) (effects.Started recall quarantined numbered ended) t
    → Opens s t root × CountsNew s t recall quarantined × TellsBegun s.engagement t.engagement (record { recall = recall; numbered = numbered; ended = ended })

-- the answer counts the messages, and the signal is owed where the message became the parent
pub record TellsOwed (s t : Record) (m : Message) (r : Recall) (numbered : ℕ) (owed : Bool) : Type 0 where
  pub messages : t.engagement.next_message ≡ s.engagement.next_message + numbered
  pub parent : IsTrue owed ↔ BecomesParent s.engagement t.engagement m r

-- a message that is received is for the site, and is taken, and the answer says what is owed for it
abbrev pub MessagesAreTaken : Type 0
MessagesAreTaken =
    (s t : Record) (m : Message) (dest : ℕ) (r : Recall) (i : List ℕ) (quarantined numbered : ℕ) (owed : Bool)
    → Does s (Deliver (frames.Recall m dest r i)) (effects.Received quarantined numbered owed) t
    → IsForSite s m dest r × TakesMessage s t m r i × CountsNew s t r quarantined × TellsOwed s t m r numbered owed

-- the row of the signal's number goes to the signer, and is cleared, and the answer says what follows
pub record ClearsFor (s t : Record) (m : Message) (by : ℕ) (answer : Signalled) : Type 0 where
  pub own : IsOwnMessage s m
  pub row : Row
  pub signer : row.dest ≡ by
  pub clears : ClearsRow s t m.number row
  pub tells : TellsCleared s.engagement t.engagement row.recall answer

-- a signal that isn't stale clears the row of its number
abbrev pub SignalsClear : Type 0
SignalsClear =
    (s t : Record) (m : Message) (by : ℕ)
    → (Does s (Deliver (frames.Signal m by)) effects.Cleared t → ClearsFor s t m by signals.Cleared)
    × ((parent : Message) → Does s (Deliver (frames.Signal m by)) (effects.ParentDue parent) t → ClearsFor s t m by (signals.ParentDue parent))
    × ((recall : Recall) → Does s (Deliver (frames.Signal m by)) (effects.Ended recall) t → ClearsFor s t m by (signals.Ended recall))

-- a message that was seen is a repeat, and a signal of a number without a row is stale: both leave the record
abbrev pub IdleFramesChangeNothing : Type 0
IdleFramesChangeNothing =
    (s t : Record) (m : Message)
    → ((dest : ℕ) (r : Recall) (i : List ℕ) → Does s (Deliver (frames.Recall m dest r i)) effects.Repeat t → IsSome (get s.engagement.seen m) × (t ≡ s))
    × ((by : ℕ) → Does s (Deliver (frames.Signal m by)) effects.Stale t → (get s.engagement.outbox m.number ≡ None) × (t ≡ s))

-- What the ways fix: two records afterwards that keep no recall without items are one.

abbrev pub OpensFixes : Type 0
OpensFixes = (s t u : Record) (root : List ℕ) → HasNoEmptySet t.quarantine → HasNoEmptySet u.quarantine → Opens s t root → Opens s u root → t ≡ u

abbrev pub TakesFixes : Type 0
TakesFixes =
    (s t u : Record) (m : Message) (r : Recall) (i : List ℕ)
    → HasNoEmptySet t.quarantine → HasNoEmptySet u.quarantine → TakesMessage s t m r i → TakesMessage s u m r i → t ≡ u

abbrev pub ClearsFixes : Type 0
ClearsFixes = (s t u : Record) (n : ℕ) (x : Row) → ClearsRow s t n x → ClearsRow s u n x → t ≡ u

-- and so is the count of what came under a recall
abbrev pub CountIsFixed : Type 0
CountIsFixed = (s t : Record) (r : Recall) (a b : ℕ) → CountsNew s t r a → CountsNew s t r b → a ≡ b

-- An answer says whether anything changed.
abbrev pub AnswersTellChanges : Type 0
AnswersTellChanges = (s t : Record) (input : SiteInput) (e : Effects) → Does s input e t → IsFalse (changes e) ↔ (s ≡ t)

-- Which frames are a site's.

-- a message is for the site where it has an effect, or is refused for its numbers
abbrev pub MessagesAreForTheSite : Type 0
MessagesAreForTheSite =
    (s t : Record) (m : Message) (dest : ℕ) (r : Recall) (i : List ℕ)
    → ((e : Effects) → Does s (Deliver (frames.Recall m dest r i)) e t → IsForSite s m dest r)
    × (Refuses s (Deliver (frames.Recall m dest r i)) refusals.NumbersSpent → IsForSite s m dest r)

-- a signal has an effect only for a message of the site
abbrev pub SignalsAreOfTheSite : Type 0
SignalsAreOfTheSite = (s t : Record) (m : Message) (by : ℕ) (e : Effects) → Does s (Deliver (frames.Signal m by)) e t → IsOwnMessage s m

-- no message and no recall has this number
abbrev pub IsOutOfRange : ℕ → Type 0
IsOutOfRange n = (n ≡ 0) ⊎ (2 ^ 62 < n)

-- a message isn't taken that is for another site, or from this one, or from none of the list, or of a recall that none of the list can have
-- begun, or whose number or recall's number is 0, or above 2^62
abbrev pub IsMisdirected : Record → Message → ℕ → Recall → Type 0
IsMisdirected s m dest r =
    (dest ≢ s.engagement.me) ⊎ (m.site ≡ s.engagement.me)
    ⊎ (length s.sites ≤ m.site) ⊎ IsOutOfRange m.number
    ⊎ (length s.sites ≤ r.site) ⊎ IsOutOfRange r.number

abbrev pub MisdirectedMessagesAreRefused : Type 0
MisdirectedMessagesAreRefused =
    (s : Record) (m : Message) (dest : ℕ) (r : Recall) (i : List ℕ)
    → Refuses s (Deliver (frames.Recall m dest r i)) refusals.NotMine ↔ IsMisdirected s m dest r

-- a signal isn't taken that is for a message of another site, or for one whose number is 0, or above 2^62, or that comes from another site than
-- the one to which the message goes
abbrev pub IsSignalOfOthers : Record → Message → ℕ → Type 0
IsSignalOfOthers s m by =
    (m.site ≢ s.engagement.me) ⊎ IsOutOfRange m.number
    ⊎ ((row : Row) × (get s.engagement.outbox m.number ≡ Some row) × (row.dest ≢ by))

abbrev pub SignalsOfOthersAreRefused : Type 0
SignalsOfOthersAreRefused = (s : Record) (m : Message) (by : ℕ) → Refuses s (Deliver (frames.Signal m by)) refusals.NotMine ↔ IsSignalOfOthers s m by

-- a signal is stale exactly where its message is the site's, its number is from 1 to 2^62, and no row has it
pub record IsSignalledAlready (s : Record) (m : Message) : Type 0 where
  pub own : m.site ≡ s.engagement.me
  pub low : 1 ≤ m.number
  pub high : m.number ≤ 2 ^ 62
  pub gone : get s.engagement.outbox m.number ≡ None

abbrev pub StaleSignalsAreOwn : Type 0
StaleSignalsAreOwn = (s t : Record) (m : Message) (by : ℕ) → Does s (Deliver (frames.Signal m by)) effects.Stale t ↔ (IsSignalledAlready s m × (t ≡ s))

-- One outcome, unless memory runs out.

-- an input has one effect, and leaves one record
abbrev pub EffectsAreFixed : Type 0
EffectsAreFixed = (s t u : Record) (input : SiteInput) (e f : Effects) → Does s input e t → Does s input f u → (e ≡ f) × (t ≡ u)

-- an input that has an effect is refused as out of memory alone
abbrev pub DoneIsNotRefused : Type 0
DoneIsNotRefused = (s t : Record) (input : SiteInput) (e : Effects) (why : Refusal) → Does s input e t → Refuses s input why → why ≡ refusals.NoMemory

-- an input is refused for one reason, besides
abbrev pub RefusalsAreFixed : Type 0
RefusalsAreFixed =
    (s : Record) (input : SiteInput) (a b : Refusal)
    → a ≢ refusals.NoMemory → b ≢ refusals.NoMemory → Refuses s input a → Refuses s input b → a ≡ b

-- No gap: an input is done, or is refused for a reason other than out of memory.

abbrev pub HasOutcome : Record → SiteInput → Type 0
HasOutcome s input = ((e : Effects) × (t : Record) × Does s input e t) ⊎ ((why : Refusal) × (why ≢ refusals.NoMemory) × Refuses s input why)

abbrev pub InputsHaveAnOutcome : Type 0
InputsHaveAnOutcome = (s : Record) (input : SiteInput) → HasOutcome s input
