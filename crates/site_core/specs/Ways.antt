-- What one step makes of a site's record: each way as facts over the record before and after, by look-ups alone.
--
-- Each look-up has at most three facts: what was found before stays (kept), what is found afterwards was found
-- before or is new (origin), and what is new is found (told, spread). They hold for every record, also one that no
-- run leads to.
use Rattle.std.specs.Prelude.{◌≡◌, ◌⊎◌, ◌↔◌, ℕ, zero, suc, ◌<◌, ◌≤◌, IsTrue, List, [], ◌∷◌, length, Contains, Some}
use Rattle.std.specs.FinMap.{get}
use Rattle.std.specs.List.Sorted.{IsStrictlySortedBy}
use Rattle.event_json.specs.Events.{Content}
use Rattle.frame_core.specs.Numbers.{Recall, Message}
use Rattle.frame_core.specs.declared.rows.Row.{Row}
use Rattle.scholten_core.specs.Effects.{Begins}
use Rattle.scholten_core.specs.Effects as effects
use Rattle.trace_core.specs.Adding.{standing_among}
use Rattle.trace_core.specs.Pairs.{IsRelated, IsShipped}
use Rattle.trace_core.specs.Spreads.{AreAscendingItems, IsSpread, with_event}
use Rattle.trace_core.specs.declared.adding.Standing.TheVariants.{Fresh}
use Rattle.trace_core.specs.declared.pairs.Pair.{Pair}
use Rattle.site_core.specs.Quarantines.{held}
use Rattle.site_core.specs.Records.{Record}
use Rattle.site_core.specs.Shipments.{shipment_cmp}

-- The look-ups.

-- the item is quarantined under the recall
abbrev pub Holds : Record → Recall → List ℕ → Type 0
Holds s r i = IsTrue (held s.quarantine r i)

-- the item is in the spread of the first one
abbrev pub Spreads : Record → List ℕ → List ℕ → Type 0
Spreads s i j = IsSpread s.captured (i ∷ []) j

-- the item was shipped to the other site
abbrev pub ShipsTo : Record → List ℕ → ℕ → Type 0
ShipsTo s i u = IsShipped s.captured i (record { site = u; item = i })

-- the recall that the site would begin next
abbrev pub next_own : Record → Recall
next_own s = record { site = s.engagement.me; number = s.engagement.next_recall }

-- an unsignalled message tells the site that the item is recalled
abbrev pub Tells : Record → ℕ → Recall → List ℕ → Type 0
Tells s u r i = (n : ℕ) × (get s.engagement.outbox n ≡ Some (record { dest = u; recall = r; item = i }))

-- A capture: one fresh event came, which leads no quarantined item out of its quarantine.

pub record Grows (s t : Record) : Type 0 where
  pub event : Content
  pub fresh : standing_among s.captured.events event ≡ Fresh
  pub captured : t.captured ≡ with_event s.captured event
  pub sites : t.sites ≡ s.sites
  pub me : t.captured.me ≡ s.captured.me
  pub quarantine : t.quarantine ≡ s.quarantine
  pub engagement : t.engagement ≡ s.engagement
  pub related_kept : (i : List ℕ) (p : Pair) → IsRelated s.captured i p → IsRelated t.captured i p
  -- a new pair of a quarantined item is here, and quarantined under the same recalls
  pub related_origin : (i : List ℕ) (p : Pair) → IsRelated t.captured i p
      → IsRelated s.captured i p ⊎ ((r : Recall) → Holds s r i → (p.site ≡ s.captured.me) × Holds s r p.item)

-- so many fresh events came, one after another
abbrev pub GrowsBy : Record → ℕ → Record → Type 0
GrowsBy s zero t = s ≡ t
GrowsBy s (suc k) t = (u : Record) × GrowsBy s k u × Grows u t

-- What a start and a message that is taken share: the item's spread comes under the recall, and messages announce it.

-- the row x of the number n is a message of this step
pub record IsNewMessage (s t : Record) (r : Recall) (n : ℕ) (x : Row) : Type 0 where
  pub low : s.engagement.next_message ≤ n
  pub high : n < t.engagement.next_message
  pub recall : x.recall ≡ r
  pub holds : Holds t r x.item
  pub shipped : ShipsTo s x.item x.dest

pub record Quarantines (s t : Record) (r : Recall) (i : List ℕ) : Type 0 where
  pub sites : t.sites ≡ s.sites
  pub captured : t.captured ≡ s.captured
  pub held_kept : (q : Recall) (j : List ℕ) → Holds s q j → Holds t q j
  pub held_origin : (q : Recall) (j : List ℕ) → Holds t q j → Holds s q j ⊎ ((q ≡ r) × Spreads s i j)
  pub held_spread : (j : List ℕ) → Spreads s i j → Holds t r j
  -- a row that stands at a number from the next one on, in a restored record, may be written over
  pub row_kept : (n : ℕ) (x : Row) → n < s.engagement.next_message → get s.engagement.outbox n ≡ Some x → get t.engagement.outbox n ≡ Some x
  pub row_origin : (n : ℕ) (x : Row) → get t.engagement.outbox n ≡ Some x → (get s.engagement.outbox n ≡ Some x) ⊎ IsNewMessage s t r n x
  -- where an item that comes under the recall was shipped to, its site is notified
  pub row_told : (j : List ℕ) (u : ℕ) → Holds t r j → (Holds s r j → ⊥) → ShipsTo s j u → Tells t u r j
  pub next_message : s.engagement.next_message ≤ t.engagement.next_message

-- so many items came under the recall, each counted once
pub record CountsNew (s t : Record) (r : Recall) (count : ℕ) : Type 0 where
  pub items : List (List ℕ)
  pub once : AreAscendingItems items
  pub exact : (j : List ℕ) → Contains items j ↔ (Holds t r j × (Holds s r j → ⊥))
  pub count_is : count ≡ length items

-- A start: the recall gets the next number, and each shipment of the root's spread is announced once, also of
-- what it held before, as only a restored record does.

pub record Opens (s t : Record) (root : List ℕ) : Type 0 where
  pub quarantines : Quarantines s t (next_own s) root
  pub told : (j : List ℕ) (u : ℕ) → Spreads s root j → ShipsTo s j u → Tells t u (next_own s) j
  pub out : List (ℕ × List ℕ)
  pub once : IsStrictlySortedBy shipment_cmp out
  pub exact : (u : ℕ) (j : List ℕ) → Contains out (u, j) ↔ (Spreads s root j × ShipsTo s j u)
  pub begins : Begins s.engagement t.engagement root out

-- A message that wasn't seen: each shipment of what comes under its recall is announced once.

pub record TakesMessage (s t : Record) (m : Message) (r : Recall) (i : List ℕ) : Type 0 where
  pub quarantines : Quarantines s t r i
  pub out : List (ℕ × List ℕ)
  pub once : IsStrictlySortedBy shipment_cmp out
  pub exact : (u : ℕ) (j : List ℕ) → Contains out (u, j) ↔ (Holds t r j × (Holds s r j → ⊥) × ShipsTo s j u)
  pub takes : effects.Takes s.engagement t.engagement m r out

-- A signal: the row x of the number n goes, and with its recall's last row the parent goes or the recall ends.

pub record ClearsRow (s t : Record) (n : ℕ) (x : Row) : Type 0 where
  pub sites : t.sites ≡ s.sites
  pub captured : t.captured ≡ s.captured
  pub quarantine : t.quarantine ≡ s.quarantine
  pub clears : effects.Clears s.engagement t.engagement n x
