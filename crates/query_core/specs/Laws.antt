-- What answers have in common, and what is left of a recall that has ended.
use Rattle.std.specs.Prelude.{◌≡◌, ◌↔◌, ℕ, List, [], Some, None, length, sum_by, Contains, IsTrue}
use Rattle.frame_core.specs.Numbers.{Recall, Message}
use Rattle.site_core.specs.Records.{Record}
use Rattle.site_core.specs.Spreading.{IsKnownItem}
use Rattle.site_recovery.specs.Fit.{Fit, IsEnded}
use Rattle.site_recovery.specs.Laws.{AreInPlace}
use Rattle.site_recovery.specs.Looks.{world_of, Held}
use Rattle.query_core.specs.KnownItems.{AreKnownItems, IsInside}
use Rattle.query_core.specs.Recalls.{AreStatuses, IsDetail}
use Rattle.query_core.specs.declared.known_items.KnownItem.{KnownItem}
use Rattle.query_core.specs.declared.recalls.RecallDetail.{RecallDetail}
use Rattle.query_core.specs.declared.recalls.RecallStatus.{RecallStatus}
use Rattle.query_core.specs.declared.recalls.SiteStanding.{SiteStanding}
use Rattle.query_core.specs.declared.recalls.WaitingMessage.{WaitingMessage}

-- Where the sites are consistent, a recall that has ended waits for nothing, and no site is engaged for it.
abbrev pub EndsWaitForNothing : Type 0
EndsWaitForNothing =
    (records : List Record) (recall : Recall) (detail : RecallDetail)
    → Fit (world_of records) → IsEnded (world_of records) recall → IsDetail records recall detail
    → (detail.waiting ≡ []) × (detail.status.waiting ≡ 0)
    × ((standing : SiteStanding) → Contains detail.sites standing
    → (standing.waiting ≡ 0) × (standing.engaged_by ≡ None))

-- Where the sites are consistent, the message by which a site is engaged is one that waits, and was told to the site.
abbrev pub ParentsWait : Type 0
ParentsWait =
    (records : List Record) (recall : Recall) (detail : RecallDetail) (standing : SiteStanding) (m : Message)
    → Fit (world_of records) → IsDetail records recall detail → Contains detail.sites standing → standing.engaged_by ≡ Some m
    → (waiting : WaitingMessage) × Contains detail.waiting waiting × (waiting.message ≡ m) × (waiting.to ≡ standing.site) × IsTrue waiting.told

-- And what a message told of is quarantined where it was told.
abbrev pub ToldItemsAreHeld : Type 0
ToldItemsAreHeld =
    (records : List Record) (recall : Recall) (detail : RecallDetail) (waiting : WaitingMessage)
    → Fit (world_of records) → IsDetail records recall detail → Contains detail.waiting waiting → IsTrue waiting.told
    → Held (world_of records) waiting.to recall waiting.item

-- The records have one list of recalls, and one answer on each.
abbrev pub OneListOfRecalls : Type 0
OneListOfRecalls =
    (records : List Record) (a b : List RecallStatus) → AreStatuses records a → AreStatuses records b → a ≡ b

abbrev pub OneDetail : Type 0
OneDetail =
    (records : List Record) (recall : Recall) (a b : RecallDetail)
    → IsDetail records recall a → IsDetail records recall b → a ≡ b

-- How a recall stands by itself is how it stands in the list of all.
abbrev pub DetailsAreListed : Type 0
DetailsAreListed =
    (records : List Record) (recall : Recall) (detail : RecallDetail) (statuses : List RecallStatus)
    → IsDetail records recall detail → AreStatuses records statuses → Contains statuses detail.status

-- Its counts are the sums of its sites' counts, and as many messages are told of as wait.
abbrev pub SitesAddUp : Type 0
SitesAddUp =
    (records : List Record) (recall : Recall) (detail : RecallDetail)
    → AreInPlace records → IsDetail records recall detail
    → (sum_by (λ s. s.quarantined) detail.sites ≡ detail.status.quarantined)
    × (sum_by (λ s. s.waiting) detail.sites ≡ detail.status.waiting)
    × (length detail.waiting ≡ detail.status.waiting)

-- An item that is asked for by its whole key is told of exactly where the site knows it.
abbrev pub WholeKeysAreTold : Type 0
WholeKeysAreTold =
    (r : Record) (item : List ℕ) (items : List KnownItem) → AreKnownItems r item items
    → IsKnownItem r.captured r.quarantine item ↔ ((known : KnownItem) × Contains items known × (known.item ≡ item))

-- What is told of where a longer text is asked for is told of where a part of it is.
abbrev pub ShorterTextsTellMore : Type 0
ShorterTextsTellMore =
    (r : Record) (text longer : List ℕ) (items fewer : List KnownItem) → AreKnownItems r text items → AreKnownItems r longer fewer
    → IsInside text longer → (known : KnownItem) → Contains fewer known → Contains items known
