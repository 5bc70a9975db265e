-- By what an event is blocked that sends items to other sites.
use Rattle.std.specs.Prelude.{◌≡◌, ◌≢◌, ◌⊎◌, ℕ, List, Option, Some, None, IsTrue, slice_get}
use Rattle.std.specs.declared.cmp.Ordering.TheVariants.{Greater}
use Rattle.event_json.specs.Events.{Content}
use Rattle.frame_core.specs.Identifiers.{recall_cmp}
use Rattle.frame_core.specs.Numbers.{Recall}
use Rattle.trace_core.specs.Numbers.{numbered}
use Rattle.trace_core.specs.Sendings.{IsNewlySent}
use Rattle.trace_core.specs.Sites.{SiteEvents}
use Rattle.trace_core.specs.declared.sendings.Sending.{Sending}
use Rattle.site_core.specs.Quarantines.{Quarantine, held, item_cmp}

-- the item is quarantined under some recall
abbrev pub IsHeld : Quarantine → List ℕ → Type 0
IsHeld q i = (r : Recall) × IsTrue (held q r i)

-- the event newly sends the item, which is quarantined, to another site
abbrev pub IsSentAway : SiteEvents → Quarantine → Content → List ℕ → Type 0
IsSentAway s q e i = IsHeld q i × (site : ℕ) × (site ≢ s.me) × IsNewlySent s.events e i site

-- the least such item, or none
abbrev pub IsLeastSent : SiteEvents → Quarantine → Content → Option (List ℕ) → Type 0
IsLeastSent s q e None = (i : List ℕ) → IsSentAway s q e i → ⊥
IsLeastSent s q e (Some i) = IsSentAway s q e i × ((j : List ℕ) → IsSentAway s q e j → item_cmp i j ≢ Greater)

-- the item with the number of a sending to another site is quarantined
pub record IsAway (s : SiteEvents) (q : Quarantine) (sending : Sending) (i : List ℕ) : Type 0 where
  pub named : slice_get (numbered s.events) sending.item ≡ Some i
  pub elsewhere : sending.site ≢ s.me
  pub holds : IsHeld q i

-- that item, or none
abbrev pub IsHeldAway : SiteEvents → Quarantine → Sending → Option (List ℕ) → Type 0
IsHeldAway s q sending None = (i : List ℕ) → IsAway s q sending i → ⊥
IsHeldAway s q sending (Some i) = IsAway s q sending i

-- one of the two, which isn't above the other
abbrev pub IsLesser : Option (List ℕ) → List ℕ → List ℕ → Type 0
IsLesser None item lesser = lesser ≡ item
IsLesser (Some other) item lesser = ((lesser ≡ other) ⊎ (lesser ≡ item)) × (item_cmp lesser other ≢ Greater) × (item_cmp lesser item ≢ Greater)

-- the item with the least recall under which it is quarantined, or none
abbrev pub IsLeastHolder : Quarantine → List ℕ → Option (Recall × List ℕ) → Type 0
IsLeastHolder q i None = IsHeld q i → ⊥
IsLeastHolder q i (Some (r, j)) = (j ≡ i) × IsTrue (held q r i) × ((other : Recall) → IsTrue (held q other i) → recall_cmp r other ≢ Greater)
