-- The step of a site: what an input does, and when it is refused.
--
-- After Dijkstra and Scholten, "Termination detection for diffusing computations", Information Processing
-- Letters 11 (1980), section 2: a site that learns of a recall quarantines what was made of the item there, and
-- notifies each site that some of it was shipped to. How a recall begins, and what a message and a signal make
-- of the site's engagement, are `begun`, `received` and `signalled` of scholten_core.
use Rattle.std.specs.Prelude.{◌≡◌, ◌≢◌, ◌⊎◌, ◌↔◌, ⊤, ℕ, ◌+◌, ◌<◌, ◌≤◌, ◌^◌, ◌==◌, Bool, List, [], ◌∷◌, length, Contains, nat_lt, true, false, Some, None, IsSome, Result, Ok, Err}
use Rattle.std.specs.Str.{IsUtf8}
use Rattle.std.specs.FinMap.{get}
use Rattle.event_json.specs.declared.doc_faults.DocFault.{DocFault}
use Rattle.event_json.specs.declared.doc_faults.DocField.TheVariants as fields
use Rattle.event_json.specs.declared.doc_faults.DocFaultKind.TheVariants as kinds
use Rattle.event_json.specs.declared.documents.Doc.{Doc}
use Rattle.event_json.specs.Documents.{whole, text_document}
use Rattle.event_json.specs.Sites.{Site}
use Rattle.frame_core.specs.declared.frames.Frame.TheVariants as frames
use Rattle.frame_core.specs.declared.rows.Row.{Row}
use Rattle.frame_core.specs.Numbers.{Recall, Message}
use Rattle.scholten_core.specs.declared.outcomes.Received.{Received}
use Rattle.scholten_core.specs.declared.outcomes.Received.TheVariants.{Owe, SignalNow}
use Rattle.scholten_core.specs.declared.outcomes.Signalled.{Signalled}
use Rattle.scholten_core.specs.declared.outcomes.Signalled.TheVariants as signals
use Rattle.scholten_core.specs.Engagement.{Engagement}
use Rattle.scholten_core.specs.Changes.{next_own, begun, received, signalled}
use Rattle.trace_core.specs.Spreads.{AreAscendingItems, IsSpread}
use Rattle.site_core.specs.declared.inputs.SiteInput.{SiteInput}
use Rattle.site_core.specs.declared.inputs.SiteInput.TheVariants.{Capture, Start, Deliver}
use Rattle.site_core.specs.declared.outcomes.Effects.{Effects}
use Rattle.site_core.specs.declared.outcomes.Effects.TheVariants as effects
use Rattle.site_core.specs.declared.outcomes.Refusal.{Refusal}
use Rattle.site_core.specs.declared.outcomes.Refusal.TheVariants as refusals
use Rattle.site_core.specs.Capturing.{Reason, IsCaptured, IsRefusedFirst, taken, blocked}
use Rattle.site_core.specs.Quarantines.{with_items}
use Rattle.site_core.specs.Records.{Record, IsMessageAmong, IsRecallAmong, IsNumber}
use Rattle.site_core.specs.Shipments.{AreShipments}
use Rattle.site_core.specs.Spreading.{AreNewlyHeld, IsKnownItem}

-- Capturing a document.

-- what the bytes are read as; those that aren't UTF-8 are no JSON text
abbrev pub IsReadAs : List Site → List ℕ → Result Doc DocFault → Type 0
IsReadAs sites bytes read =
    (IsUtf8 bytes × (read ≡ text_document sites bytes)) ⊎ ((IsUtf8 bytes → ⊥) × (read ≡ Err (whole fields.Document kinds.Syntax)))

-- the events of the document are captured, and nothing else changes
pub record Captures (s : Record) (bytes : List ℕ) (fresh known skipped : ℕ) (t : Record) : Type 0 where
  pub doc : Doc
  pub read : IsReadAs s.sites bytes (Ok doc)
  pub skips : skipped ≡ doc.skipped
  pub captured : IsCaptured s.captured s.quarantine doc.events (record { events = t.captured.events; fresh = fresh; known = known })
  pub rest : t ≡ record s { captured = record s.captured { events = t.captured.events } }

-- the first event of the document that is refused has this number, from 1 among those read
pub record CapturesUpTo (s : Record) (bytes : List ℕ) (number : ℕ) (reason : Reason) : Type 0 where
  pub doc : Doc
  pub read : IsReadAs s.sites bytes (Ok doc)
  pub refused : IsRefusedFirst s.captured s.quarantine doc.events number reason

-- Starting a recall.

-- these messages get numbers of at most 2^62
abbrev pub HaveNumbers : Engagement → List (ℕ × List ℕ) → Type 0
HaveNumbers e out = e.next_message + length out ≤ 2 ^ 62 + 1

-- these messages would get numbers past 2^62
abbrev pub AreTooMany : Engagement → List (ℕ × List ℕ) → Type 0
AreTooMany e out = 2 ^ 62 + 1 < e.next_message + length out

-- a site that knows the root, the items of its spread there, those of them that the next recall doesn't hold yet,
-- and the spread's shipments
pub record MayStart (s : Record) (root : List ℕ) (spread new : List (List ℕ)) (out : List (ℕ × List ℕ)) : Type 0 where
  pub known : IsKnownItem s.captured s.quarantine root
  pub ascending : AreAscendingItems spread
  pub exact : (j : List ℕ) → Contains spread j ↔ IsSpread s.captured (root ∷ []) j
  pub newly : AreNewlyHeld s.captured s.quarantine (next_own s.engagement) root new
  pub shipped : AreShipments s.captured spread out

-- the next recall's number, or one of these messages' numbers, would be past 2^62
abbrev pub HasNoNumbers : Engagement → List (ℕ × List ℕ) → Type 0
HasNoNumbers e out = (2 ^ 62 < e.next_recall) ⊎ AreTooMany e out

-- the spread comes under the next recall, and each shipment of it is a message; there are numbers for all
pub record Starts (s : Record) (root : List ℕ) (recall : Recall) (quarantined numbered : ℕ) (ended : Bool) (t : Record) : Type 0 where
  pub spread : List (List ℕ)
  pub new : List (List ℕ)
  pub out : List (ℕ × List ℕ)
  pub may : MayStart s root spread new out
  pub enough : (s.engagement.next_recall ≤ 2 ^ 62) × HaveNumbers s.engagement out
  pub next : recall ≡ next_own s.engagement
  pub held : quarantined ≡ length new
  pub told : numbered ≡ length out
  pub at_once : ended ≡ (length out == 0)
  pub after : t ≡ record s { quarantine = with_items s.quarantine recall new; engagement = begun s.engagement root out }

-- the recall has no number, or its messages have none
pub record StartsPastNumbers (s : Record) (root : List ℕ) : Type 0 where
  pub spread : List (List ℕ)
  pub new : List (List ℕ)
  pub out : List (ℕ × List ℕ)
  pub may : MayStart s root spread new out
  pub spent : HasNoNumbers s.engagement out

-- Taking a message of a recall.

-- the frame is for this site and from another of the list, of a recall that one of them can have begun
pub record IsForSite (s : Record) (m : Message) (dest : ℕ) (r : Recall) : Type 0 where
  pub here : dest ≡ s.engagement.me
  pub elsewhere : m.site ≢ s.engagement.me
  pub message : IsMessageAmong (length s.sites) m
  pub recall : IsRecallAmong (length s.sites) r

-- the message was seen, under whatever recall
pub record IsSeenBefore (s : Record) (m : Message) (dest : ℕ) (r : Recall) : Type 0 where
  pub mine : IsForSite s m dest r
  pub seen : IsSome (get s.engagement.seen m)

-- a message that wasn't seen, the items of the spread that its recall doesn't hold yet, and their shipments
pub record MayTake (s : Record) (m : Message) (dest : ℕ) (r : Recall) (i : List ℕ) (new : List (List ℕ)) (out : List (ℕ × List ℕ)) : Type 0 where
  pub mine : IsForSite s m dest r
  pub unseen : get s.engagement.seen m ≡ None
  pub newly : AreNewlyHeld s.captured s.quarantine r i new
  pub shipped : AreShipments s.captured new out

-- what is owed for the message once so many were numbered
abbrev pub reply : ℕ → Bool → Received
reply numbered true = Owe numbered
reply numbered false = SignalNow numbered

-- the new items come under the recall, and each shipment of them is a message, for which there are numbers
pub record Takes (s : Record) (m : Message) (dest : ℕ) (r : Recall) (i : List ℕ) (quarantined numbered : ℕ) (owed : Bool) (t : Record) : Type 0 where
  pub new : List (List ℕ)
  pub out : List (ℕ × List ℕ)
  pub may : MayTake s m dest r i new out
  pub enough : HaveNumbers s.engagement out
  pub held : quarantined ≡ length new
  pub engaged : received s.engagement m r out ≡ (t.engagement, reply numbered owed)
  pub after : t ≡ record s { quarantine = with_items s.quarantine r new; engagement = t.engagement }

-- its messages have no numbers
pub record TakesPastNumbers (s : Record) (m : Message) (dest : ℕ) (r : Recall) (i : List ℕ) : Type 0 where
  pub new : List (List ℕ)
  pub out : List (ℕ × List ℕ)
  pub may : MayTake s m dest r i new out
  pub spent : AreTooMany s.engagement out

-- Taking a signal.

-- a message that this site can have sent
pub record IsOwnMessage (s : Record) (m : Message) : Type 0 where
  pub site : m.site ≡ s.engagement.me
  pub number : IsNumber m.number

-- the signal is for a message of this site that is signalled already, or was never sent
pub record IsStale (s : Record) (m : Message) : Type 0 where
  pub mine : IsOwnMessage s m
  pub gone : get s.engagement.outbox m.number ≡ None

-- the row that the message has
pub record HasRow (s : Record) (m : Message) (row : Row) : Type 0 where
  pub mine : IsOwnMessage s m
  pub stands : get s.engagement.outbox m.number ≡ Some row

-- the message goes to the site that signals it, and is done with
pub record Clears (s : Record) (m : Message) (by : ℕ) (answer : Signalled) (t : Record) : Type 0 where
  pub row : Row
  pub has : HasRow s m row
  pub signer : row.dest ≡ by
  pub engaged : signalled s.engagement m.number ≡ (t.engagement, answer)
  pub after : t ≡ record s { engagement = t.engagement }

-- the message isn't of this site, or goes to another site than the one that signals it
abbrev pub IsNotForSignal : Record → Message → ℕ → Type 0
IsNotForSignal s m by = (IsOwnMessage s m → ⊥) ⊎ ((row : Row) × HasRow s m row × (row.dest ≢ by))

-- The step.

-- the input has these effects, and leaves this record
abbrev pub Does : Record → SiteInput → Effects → Record → Type 0
Does s (Capture bytes) (effects.Captured fresh known skipped) t = Captures s bytes fresh known skipped t
Does s (Start root) (effects.Started recall quarantined numbered ended) t = Starts s root recall quarantined numbered ended t
Does s (Deliver (frames.Recall m dest r i)) (effects.Received quarantined numbered owed) t = Takes s m dest r i quarantined numbered owed t
Does s (Deliver (frames.Recall m dest r i)) effects.Repeat t = IsSeenBefore s m dest r × (t ≡ s)
Does s (Deliver (frames.Signal m by)) effects.Stale t = IsStale s m × (t ≡ s)
Does s (Deliver (frames.Signal m by)) effects.Cleared t = Clears s m by signals.Cleared t
Does s (Deliver (frames.Signal m by)) (effects.ParentDue parent) t = Clears s m by (signals.ParentDue parent) t
Does s (Deliver (frames.Signal m by)) (effects.Ended recall) t = Clears s m by (signals.Ended recall) t
Does s input other t = ⊥

-- the input is refused for this reason; memory may always run out where `TakesMemory` says so
abbrev pub Refuses : Record → SiteInput → Refusal → Type 0
Refuses s input refusals.NoMemory = ⊤
Refuses s (Capture bytes) (refusals.Doc fault) = IsReadAs s.sites bytes (Err fault)
Refuses s (Capture bytes) (refusals.Blocked r i number) = CapturesUpTo s bytes number (blocked r i)
Refuses s (Capture bytes) (refusals.IdTaken number) = CapturesUpTo s bytes number taken
Refuses s (Start root) refusals.UnknownItem = IsKnownItem s.captured s.quarantine root → ⊥
Refuses s (Start root) refusals.NumbersSpent = StartsPastNumbers s root
Refuses s (Deliver (frames.Recall m dest r i)) refusals.NotMine = IsForSite s m dest r → ⊥
Refuses s (Deliver (frames.Recall m dest r i)) refusals.NumbersSpent = TakesPastNumbers s m dest r i
Refuses s (Deliver (frames.Signal m by)) refusals.NotMine = IsNotForSignal s m by
Refuses s input other = ⊥

-- the inputs for which a step in place may allocate: no item that isn't known, no frame that isn't for the site, no
-- repeat and no signal
abbrev pub TakesMemory : Record → SiteInput → Type 0
TakesMemory s (Capture bytes) = ⊤
TakesMemory s (Start root) = IsKnownItem s.captured s.quarantine root
TakesMemory s (Deliver (frames.Recall m dest r i)) = IsForSite s m dest r × (get s.engagement.seen m ≡ None)
TakesMemory s (Deliver (frames.Signal m by)) = ⊥

-- and those for which a copy of the record is made: a signal whose row stands, too
abbrev pub CopiesRecord : Record → SiteInput → Type 0
CopiesRecord s (Capture bytes) = ⊤
CopiesRecord s (Start root) = IsKnownItem s.captured s.quarantine root
CopiesRecord s (Deliver (frames.Recall m dest r i)) = IsForSite s m dest r × (get s.engagement.seen m ≡ None)
CopiesRecord s (Deliver (frames.Signal m by)) = (row : Row) × HasRow s m row × (row.dest ≡ by)

-- the effects change the record
abbrev pub changes : Effects → Bool
changes (effects.Captured fresh known skipped) = nat_lt 0 fresh
changes effects.Repeat = false
changes effects.Stale = false
changes other = true
