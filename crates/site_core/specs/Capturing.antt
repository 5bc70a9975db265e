-- What capturing a document's events makes of a site with a quarantine, event by event.
use Rattle.std.specs.Prelude.{◌≡◌, ◌≢◌, ◌⊎◌, ◌<◌, ℕ, suc, ⊤, IsTrue, List, length, take, slice_get, Some}
use Rattle.std.specs.declared.cmp.Ordering.TheVariants.{Greater}
use Rattle.event_json.specs.Events.{Content}
use Rattle.frame_core.specs.Identifiers.{recall_cmp}
use Rattle.frame_core.specs.Numbers.{Recall}
use Rattle.trace_core.specs.Adding.{Addition, judged, kept_with, standing_among}
use Rattle.trace_core.specs.Sites.{SiteEvents}
use Rattle.trace_core.specs.Spreads.{IsNewTarget}
use Rattle.trace_core.specs.declared.adding.Standing.TheVariants.{Fresh, Known, Taken}
use Rattle.trace_core.specs.declared.pairs.Pair.{Pair}
use Rattle.site_core.specs.declared.capturing.CaptureFault.{CaptureFault}
use Rattle.site_core.specs.declared.capturing.CaptureFault.TheVariants as faults
use Rattle.site_core.specs.Quarantines.{Quarantine, held, item_cmp}

-- the pair is at this site, and its item is quarantined here under the recall
abbrev pub IsHeldHere : SiteEvents → Quarantine → Recall → Pair → Type 0
IsHeldHere s q r p = (p.site ≡ s.me) × IsTrue (held q r p.item)

-- the event would lead from the item, which is quarantined under the recall, to a pair that isn't
pub record IsBlockedBy (s : SiteEvents) (q : Quarantine) (e : Content) (i : List ℕ) (r : Recall) : Type 0 where
  pub source : IsTrue (held q r i)
  pub target : Pair
  pub new : IsNewTarget s e i target
  pub leaves : IsHeldHere s q r target → ⊥

-- the least item by which the event is blocked, and then the least recall
pub record IsFirstBlock (s : SiteEvents) (q : Quarantine) (e : Content) (i : List ℕ) (r : Recall) : Type 0 where
  pub blocked : IsBlockedBy s q e i r
  pub least_item : (j : List ℕ) (other : Recall) → IsBlockedBy s q e j other → item_cmp i j ≢ Greater
  pub least_recall : (other : Recall) → IsBlockedBy s q e i other → recall_cmp r other ≢ Greater

-- nothing blocks the event
abbrev pub IsFree : SiteEvents → Quarantine → Content → Type 0
IsFree s q e = (i : List ℕ) (r : Recall) → IsBlockedBy s q e i r → ⊥

-- why an event is refused
pub data Reason : Type 0 where
  -- another event has its eventID
  taken : Reason
  -- it would lead out of the quarantine of the recall, from the item
  blocked : Recall → List ℕ → Reason

-- the site once the first `place` events of a document were captured
abbrev pub site_before : SiteEvents → List Content → ℕ → SiteEvents
site_before s given place = record s { events = (kept_with s.events (judged s.events (take place given))).events }

-- an event is refused where its eventID is taken; and a fresh one where it is blocked
abbrev pub IsReason : SiteEvents → Quarantine → Content → Reason → Type 0
IsReason s q e taken = standing_among s.events e ≡ Taken
IsReason s q e (blocked r i) = (standing_among s.events e ≡ Fresh) × IsFirstBlock s q e i r

-- the event at this place, from 0, is refused
pub record IsRefusedAt (s : SiteEvents) (q : Quarantine) (given : List Content) (place : ℕ) (reason : Reason) : Type 0 where
  pub event : Content
  pub stands : slice_get given place ≡ Some event
  pub refused : IsReason (site_before s given place) q event reason

-- no event before this place is refused
abbrev pub NoneIsRefusedBefore : SiteEvents → Quarantine → List Content → ℕ → Type 0
NoneIsRefusedBefore s q given place = (earlier : ℕ) (reason : Reason) → earlier < place → IsRefusedAt s q given earlier reason → ⊥

-- an event passes that is known, and a fresh one that nothing blocks
abbrev pub IsPassed : SiteEvents → Quarantine → Content → Type 0
IsPassed s q e = (standing_among s.events e ≡ Known) ⊎ ((standing_among s.events e ≡ Fresh) × IsFree s q e)

-- each event before this place passes, once those before it were captured
abbrev pub EachPassesBefore : SiteEvents → Quarantine → List Content → ℕ → Type 0
EachPassesBefore s q given place = (earlier : ℕ) (e : Content) → earlier < place → slice_get given earlier ≡ Some e → IsPassed (site_before s given earlier) q e

-- each event passes, and the fresh ones are kept
pub record IsCaptured (s : SiteEvents) (q : Quarantine) (given : List Content) (a : Addition) : Type 0 where
  pub all_pass : EachPassesBefore s q given (length given)
  pub kept : a ≡ kept_with s.events (judged s.events given)

-- the first event that is refused, by its place from 0, and why
pub record IsFirstRefused (s : SiteEvents) (q : Quarantine) (given : List Content) (place : ℕ) (reason : Reason) : Type 0 where
  pub refused : IsRefusedAt s q given place reason
  pub first : NoneIsRefusedBefore s q given place

-- the first event that is refused, by its number from 1, and why
abbrev pub IsRefusedFirst : SiteEvents → Quarantine → List Content → ℕ → Reason → Type 0
IsRefusedFirst s q given event reason = (place : ℕ) × (event ≡ suc place) × IsFirstRefused s q given place reason

-- what a fault says; memory may always run out
abbrev pub TellsRefusal : SiteEvents → Quarantine → List Content → CaptureFault → Type 0
TellsRefusal s q given faults.NoMemory = ⊤
TellsRefusal s q given (faults.IdTaken event) = IsRefusedFirst s q given event taken
TellsRefusal s q given (faults.Blocked r i event) = IsRefusedFirst s q given event (blocked r i)
