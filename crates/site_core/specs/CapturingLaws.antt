-- What capturing has to mean.
use Rattle.std.specs.Prelude.{◌≡◌, ◌≢◌, ◌⊎◌, Contains, ℕ, ◌<◌, IsTrue, List, [], ◌∷◌, ◌++◌, slice_get, Some}
use Rattle.event_json.specs.Events.{Content}
use Rattle.event_json.specs.declared.bodies.Body.TheVariants.{Ship}
use Rattle.frame_core.specs.Numbers.{Recall}
use Rattle.trace_core.specs.Adding.{Addition}
use Rattle.trace_core.specs.Laws.{IsItemBelow}
use Rattle.trace_core.specs.Pairs.{IsRelated}
use Rattle.trace_core.specs.Sites.{SiteEvents}
use Rattle.trace_core.specs.declared.pairs.Pair.{Pair}
use Rattle.site_core.specs.Capturing.{Reason, blocked, site_before, IsCaptured, IsFirstRefused}
use Rattle.site_core.specs.Quarantines.{Quarantine, held}

-- events are captured in one way, or first refused at one place for one reason, and not both
pub record HaveOneOutcome (s : SiteEvents) (q : Quarantine) (given : List Content) : Type 0 where
  pub one_addition : (a b : Addition) → IsCaptured s q given a → IsCaptured s q given b → a ≡ b
  pub not_both : (a : Addition) (place : ℕ) (reason : Reason) → IsCaptured s q given a → IsFirstRefused s q given place reason → ⊥
  pub one_refusal : (place other : ℕ) (reason why : Reason) → IsFirstRefused s q given place reason → IsFirstRefused s q given other why → (place ≡ other) × (reason ≡ why)

abbrev pub EventsHaveOneOutcome : Type 0
EventsHaveOneOutcome = (s : SiteEvents) (q : Quarantine) (given : List Content) → HaveOneOutcome s q given

-- and there is one of the two
abbrev pub EventsHaveAnOutcome : Type 0
EventsHaveAnOutcome =
    (s : SiteEvents) (q : Quarantine) (given : List Content)
    → ((a : Addition) × IsCaptured s q given a) ⊎ ((place : ℕ) × (reason : Reason) × IsFirstRefused s q given place reason)

-- what a quarantined item is related to once events are captured it was related to before, or it is quarantined
-- here under the same recall
abbrev pub CapturesLeadNoFurther : Type 0
CapturesLeadNoFurther =
    (s : SiteEvents) (q : Quarantine) (given : List Content) (a : Addition) → IsCaptured s q given a
    → (r : Recall) (i : List ℕ) (p : Pair) → IsTrue (held q r i) → IsRelated (record s { events = a.events }) i p
    → IsRelated s i p ⊎ ((p.site ≡ s.me) × IsTrue (held q r p.item))

-- the event would relate the item, which is quarantined under the recall, to a pair that nothing relates it to yet
-- and that isn't quarantined here under the recall
pub record LeadsOut (s : SiteEvents) (q : Quarantine) (e : Content) (r : Recall) (i : List ℕ) : Type 0 where
  pub source : IsTrue (held q r i)
  pub target : Pair
  pub added : IsRelated (record s { events = s.events ++ e ∷ [] }) i target
  pub new : IsRelated s i target → ⊥
  pub leaves : (target.site ≡ s.me) × IsTrue (held q r target.item) → ⊥

-- an event is blocked for that alone
abbrev pub BlockedEventsLeadOut : Type 0
BlockedEventsLeadOut =
    (s : SiteEvents) (q : Quarantine) (given : List Content) (place : ℕ) (r : Recall) (i : List ℕ)
    → IsFirstRefused s q given place (blocked r i)
    → (e : Content) × (slice_get given place ≡ Some e) × LeadsOut (site_before s given place) q e r i

-- a recall is below those of higher sites, and those of its site with a higher number
abbrev pub IsRecallBelow : Recall → Recall → Type 0
IsRecallBelow r t = (r.site < t.site) ⊎ ((r.site ≡ t.site) × (r.number < t.number))

-- the item is below the other one, or the two are one, and the recall is below the other or the same
abbrev pub IsNamedBefore : List ℕ → Recall → List ℕ → Recall → Type 0
IsNamedBefore i r j t = IsItemBelow i j ⊎ ((i ≡ j) × ((r ≡ t) ⊎ IsRecallBelow r t))

-- of all items and recalls for which a blocked event leads out, the refusal names the least item, and the least recall of that item
abbrev pub BlocksNameTheLeast : Type 0
BlocksNameTheLeast =
    (s : SiteEvents) (q : Quarantine) (given : List Content) (place : ℕ) (r : Recall) (i : List ℕ) (e : Content)
    → IsFirstRefused s q given place (blocked r i) → slice_get given place ≡ Some e
    → (t : Recall) (j : List ℕ) → LeadsOut (site_before s given place) q e t j → IsNamedBefore i r j t

-- a shipment of the document lists the item, with another site among its destinations to which nothing sent the item before
pub record IsShippedAnew (s : SiteEvents) (given : List Content) (place : ℕ) (i : List ℕ) : Type 0 where
  pub event : Content
  pub items : List (List ℕ)
  pub sites : List ℕ
  pub outside : List (List ℕ)
  pub to : ℕ
  pub stands : slice_get given place ≡ Some event
  pub says : event.body ≡ Ship items sites outside
  pub listed : Contains items i
  pub goes : Contains sites to
  pub elsewhere : to ≢ s.me
  pub new : IsRelated (site_before s given place) i (record { site = to; item = i }) → ⊥

-- so where an item that is shipped is quarantined under a recall, the refusal names no item above it, and that item under no recall above that
abbrev pub ShipmentsNameTheLesser : Type 0
ShipmentsNameTheLesser =
    (s : SiteEvents) (q : Quarantine) (given : List Content) (place : ℕ) (i j : List ℕ) (r t : Recall)
    → IsShippedAnew s given place i → IsTrue (held q r i) → IsFirstRefused s q given place (blocked t j)
    → (IsItemBelow i j → ⊥) × ((i ≡ j) → IsRecallBelow r t → ⊥)
