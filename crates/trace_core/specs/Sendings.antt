-- Items with the sites that they were sent to, as a list in which none comes twice.
use Rattle.std.specs.Prelude.{◌≡◌, ◌≢◌, ◌↔◌, ◌<◌, ◌≤◌, ℕ, true, List, [], ◌∷◌, ◌++◌, Option, Some, None, map, unwrap_or, get_or, slice_get, length, take, AllPairs, Contains}
use Rattle.event_json.specs.Events.{Content}
use Rattle.event_json.specs.declared.bodies.Body.{Body}
use Rattle.event_json.specs.declared.bodies.Body.TheVariants.{Note, Ship, Make, Pack}
use Rattle.trace_core.specs.declared.sendings.Sending.{Sending}
use Rattle.trace_core.specs.Numbers.{numbered}
use Rattle.trace_core.specs.Pairs.{IsSentTo}
use Rattle.trace_core.specs.Relations.{Reaches}
use Rattle.trace_core.specs.SiteSets.{has_site}

-- none comes twice
abbrev pub AreDistinct : List Sending → Type 0
AreDistinct log = AllPairs (λ a b. a ≢ b) log

-- the set of a number, of no site where there is none
abbrev pub set_at : List ℕ → ℕ → ℕ
set_at sets item = unwrap_or (slice_get sets item) 0

-- by number the set of the sites of each item, and no sending comes twice
pub record HasSites (log : List Sending) (sets : List ℕ) : Type 0 where
  pub same : (item site : ℕ)
      → has_site (set_at sets item) site ≡ true ↔ Contains log (record { item = item; site = site })
  pub once : AreDistinct log

-- nothing is taken away, and the order stays
abbrev pub Extends : List Sending → List Sending → Type 0
Extends old new = (more : List Sending) × (new ≡ old ++ more)

-- the sendings are found now, and those that weren't before come at the end; nothing else is new
pub record NotesSendings (old new sendings : List Sending) : Type 0 where
  pub more : List Sending
  pub appended : new ≡ old ++ more
  pub only : (s : Sending) → Contains more s → Contains sendings s
  pub all : (s : Sending) → Contains sendings s → Contains new s

-- the items at the site
abbrev pub at_site : List ℕ → ℕ → List Sending
at_site items site = map (λ i. record { item = i; site = site }) items

-- the parent, where there is one, was sent to the site
abbrev pub WasSent : List Sending → Option ℕ → ℕ → Type 0
WasSent log None site = ⊥
WasSent log (Some parent) site = Contains log (record { item = parent; site = site })

-- where the items of an event go: to the sites of a shipment, and else to where the parent was sent
abbrev pub Goes : List Sending → Body → Option ℕ → ℕ → Type 0
Goes log (Note items) parent site = WasSent log parent site
Goes log (Ship items sites outside) parent site = Contains sites site
Goes log (Make id ins outs) parent site = WasSent log parent site
Goes log (Pack action own children) parent site = WasSent log parent site

-- the items are found where they go, and nothing else is new
pub record Starts (items : List ℕ) (goes : ℕ → Type 0) (old new : List Sending) : Type 0 where
  pub more : List Sending
  pub appended : new ≡ old ++ more
  pub only : (s : Sending) → Contains more s → Contains items s.item × goes s.site
  pub all : (s : Sending) → Contains items s.item → goes s.site → Contains new s

-- what lies in an item, by number
abbrev pub Holds : (ℕ → List ℕ) → ℕ → ℕ → Type 0
Holds children n c = Contains (children n) c

-- what lies in the item of each of these goes where it goes
abbrev pub AreFollowed : (ℕ → List ℕ) → List Sending → List Sending → Type 0
AreFollowed children some all = (s : Sending) (c : ℕ) → Contains some s → Holds children s.item c → Contains all (record { item = c; site = s.site })

-- nothing is found but what lies in something that stood there, or in what lies in it; and where those before a place were followed, all are
pub record Follows (children : ℕ → List ℕ) (from : ℕ) (old new : List Sending) : Type 0 where
  pub extends : Extends old new
  pub sound : (s : Sending) → Contains new s
      → (n : ℕ) × Contains old (record { item = n; site = s.site }) × Reaches (Holds children) n s.item
  pub closed : AreFollowed children (take from old) old → AreFollowed children new new

-- the items are found where they go, and then what lies in them
pub record SendsOn (children : ℕ → List ℕ) (items : List ℕ) (goes : ℕ → Type 0) (old new : List Sending) : Type 0 where
  pub between : List Sending
  pub starts : Starts items goes old between
  pub follows : Follows children (length old) between new

-- the event, after the others, sends the item to the site, and they didn't
abbrev pub IsNewlySent : List Content → Content → List ℕ → ℕ → Type 0
IsNewlySent events e item site = IsSentTo (events ++ e ∷ []) item site × (IsSentTo events item site → ⊥)

-- just what the events send
abbrev pub AreSent : List Content → List Sending → Type 0
AreSent events log = (s : Sending) → Contains log s ↔ ((i : List ℕ) × (slice_get (numbered events) s.item ≡ Some i) × IsSentTo events i s.site)

-- just what the event newly sends, after the others, by the numbers of names
abbrev pub AreNewlySent : List (List ℕ) → List Content → Content → List Sending → Type 0
AreNewlySent names events e sent =
    (n t : ℕ) → Contains sent (record { item = n; site = t }) ↔ ((i : List ℕ) × (slice_get names n ≡ Some i) × IsNewlySent events e i t)

-- the log is what all events send; and what the first so many send is its beginning, so many as are counted
pub record HasSent (events : List Content) (log : List Sending) (counts : List ℕ) : Type 0 where
  pub all : AreSent events log
  pub counted : length counts ≡ length events
  pub before : (k d : ℕ) → k < length counts → AreSent (take k events) (take (get_or counts k d) log)
  pub within : (k d : ℕ) → k < length counts → get_or counts k d ≤ length log
  pub rise : (j k d : ℕ) → j < k → k < length counts → get_or counts j d ≤ get_or counts k d

-- the item of one of the sendings
abbrev pub HasItemOf : List Content → List Sending → List ℕ → Type 0
HasItemOf events found i = (s : Sending) × Contains found s × (slice_get (numbered events) s.item ≡ Some i)
