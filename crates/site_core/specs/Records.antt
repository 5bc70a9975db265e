-- What a site keeps.
use Rattle.std.specs.Prelude.{◌≡◌, ℕ, ◌<◌, ◌≤◌, ◌^◌, List, [], length, All, IsSome, Some}
use Rattle.std.specs.FinMap as map
use Rattle.event_json.specs.Sites.{Site, ShipsAmong}
use Rattle.frame_core.specs.Numbers.{Recall, Message}
use Rattle.frame_core.specs.Unsignalled.{IsNextNumber}
use Rattle.frame_core.specs.declared.rows.Row.{Row}
use Rattle.scholten_core.specs.Engagement.{Engagement}
use Rattle.trace_core.specs.Sites.{SiteEvents}
use Rattle.site_core.specs.Quarantines.{Quarantine, HasNoEmptySet}

pub record Record : Type 0 where
  -- all sites, in the order of their numbers
  pub sites : List Site
  -- its own number, and the events that it captured, in order
  pub captured : SiteEvents
  -- the items that are quarantined here, by recall
  pub quarantine : Quarantine
  -- its own number again, its outbox, seen messages, parents and own recalls, and the next numbers
  pub engagement : Engagement

-- nothing captured, quarantined, sent or seen yet
abbrev pub fresh_engagement : ℕ → Engagement
fresh_engagement me = record { me = me; outbox = map.empty; seen = map.empty; parents = map.empty; own = map.empty; next_message = 1; next_recall = 1 }

abbrev pub fresh : List Site → ℕ → Record
fresh sites me = record { sites = sites; captured = record { me = me; events = [] }; quarantine = map.empty; engagement = fresh_engagement me }

-- a number that a message or a recall has
pub record IsNumber (n : ℕ) : Type 0 where
  pub low : 1 ≤ n
  pub high : n ≤ 2 ^ 62

-- a recall that one of so many sites began, and a message that one of them sends
pub record IsRecallAmong (sites : ℕ) (r : Recall) : Type 0 where
  pub site : r.site < sites
  pub number : IsNumber r.number

pub record IsMessageAmong (sites : ℕ) (m : Message) : Type 0 where
  pub site : m.site < sites
  pub number : IsNumber m.number

-- an unsignalled message, by its number
pub record IsRowAmong (sites : ℕ) (at : ℕ) (row : Row) : Type 0 where
  pub number : IsNumber at
  pub dest : row.dest < sites
  pub recall : IsRecallAmong sites row.recall

-- every site of an engagement is of the list, and every number is one that messages and recalls have
pub record IsEngagementAmong (sites : ℕ) (d : Engagement) : Type 0 where
  pub rows : (number : ℕ) (row : Row) → map.get d.outbox number ≡ Some row → IsRowAmong sites number row
  pub seen : (m : Message) (r : Recall) → map.get d.seen m ≡ Some r → IsMessageAmong sites m × IsRecallAmong sites r
  pub parents : (r : Recall) (m : Message) → map.get d.parents r ≡ Some m → IsRecallAmong sites r × IsMessageAmong sites m
  pub own : (number : ℕ) → IsSome (map.get d.own number) → IsNumber number

-- every site is of the list, every number is one that messages and recalls have, and no recall has an empty set
pub record IsSound (s : Record) : Type 0 where
  pub one_site : s.captured.me ≡ s.engagement.me
  pub me : s.engagement.me < length s.sites
  pub events : All (λ e. ShipsAmong (length s.sites) e.body) s.captured.events
  pub quarantine : (r : Recall) → IsSome (map.get s.quarantine r) → IsRecallAmong (length s.sites) r
  pub no_empty_set : HasNoEmptySet s.quarantine
  pub rows : (number : ℕ) (row : Row) → map.get s.engagement.outbox number ≡ Some row → IsRowAmong (length s.sites) number row
  pub seen : (m : Message) (r : Recall) → map.get s.engagement.seen m ≡ Some r → IsMessageAmong (length s.sites) m × IsRecallAmong (length s.sites) r
  pub parents : (r : Recall) (m : Message) → map.get s.engagement.parents r ≡ Some m → IsRecallAmong (length s.sites) r × IsMessageAmong (length s.sites) m
  pub own : (number : ℕ) → IsSome (map.get s.engagement.own number) → IsNumber number
  pub next_message : IsNextNumber s.engagement.next_message
  pub next_recall : IsNextNumber s.engagement.next_recall
