-- How recalls stand, by the records of all sites.
use Rattle.std.specs.Prelude.{◌≡◌, ◌⊎◌, ◌<◌, ℕ, List, sum_by, Some, None, IsSome, is_some}
use Rattle.std.specs.Ordering.{nat_cmp}
use Rattle.std.specs.declared.cmp.Ordering.{Ordering}
use Rattle.frame_core.specs.Identifiers.{message_cmp, recall_cmp}
use Rattle.frame_core.specs.Numbers.{Recall}
use Rattle.frame_core.specs.Outboxes.{rows_of}
use Rattle.scholten_core.specs.declared.own_recalls.Own.{Own}
use Rattle.site_core.specs.ItemSets as set
use Rattle.site_core.specs.Quarantines.{items_under}
use Rattle.site_core.specs.Records.{Record}
use Rattle.site_recovery.specs.Looks.{World, world_of, row, seen, parent, own}
use Rattle.query_core.specs.Lists.{AreAllBy}
use Rattle.query_core.specs.declared.recalls.QueryFault.{QueryFault}
use Rattle.query_core.specs.declared.recalls.QueryFault.TheVariants.{NoMemory, UnknownRecall}
use Rattle.query_core.specs.declared.recalls.RecallDetail.{RecallDetail}
use Rattle.query_core.specs.declared.recalls.RecallStatus.{RecallStatus}
use Rattle.query_core.specs.declared.recalls.SiteStanding.{SiteStanding}
use Rattle.query_core.specs.declared.recalls.WaitingMessage.{WaitingMessage}

-- how many items the site has quarantined under the recall
abbrev pub quarantined_count : Recall → Record → ℕ
quarantined_count recall r = set.len (items_under r.quarantine recall)

-- how many messages of the recall its outbox has
abbrev pub waiting_count : Recall → Record → ℕ
waiting_count recall r = rows_of r.engagement.outbox recall

-- ---- a recall

-- the recall was begun, and has this root, and has ended or not, as the record of its site has it; so many pairs are
-- quarantined under it and so many messages of it wait at all sites
pub record IsStatus (records : List Record) (status : RecallStatus) : Type 0 where
  pub entry : Own
  pub begun : own (world_of records) status.recall.site status.recall.number ≡ Some entry
  pub root : status.root ≡ entry.root
  pub ended : status.ended ≡ entry.ended
  pub quarantined : status.quarantined ≡ sum_by (quarantined_count status.recall) records
  pub waiting : status.waiting ≡ sum_by (waiting_count status.recall) records

abbrev pub status_cmp : RecallStatus → RecallStatus → Ordering
status_cmp a b = recall_cmp a.recall b.recall

-- all recalls that the sites began, by site, then by number
abbrev pub AreStatuses : List Record → List RecallStatus → Type 0
AreStatuses records statuses = AreAllBy status_cmp (IsStatus records) statuses

-- ---- its sites and its messages

-- what the recall is to a site that holds an item under it, waits for a signal or is engaged for it
pub record IsStanding (W : World) (recall : Recall) (standing : SiteStanding) : Type 0 where
  pub quarantined : standing.quarantined ≡ quarantined_count recall (W standing.site)
  pub waiting : standing.waiting ≡ waiting_count recall (W standing.site)
  pub engaged_by : standing.engaged_by ≡ parent W standing.site recall
  pub concerned : (0 < standing.quarantined) ⊎ ((0 < standing.waiting) ⊎ IsSome standing.engaged_by)

abbrev pub standing_cmp : SiteStanding → SiteStanding → Ordering
standing_cmp a b = nat_cmp a.site b.site

-- a row of the recall in the outbox of the message's site, and whether the site that it is for has seen the message
pub record IsWaiting (W : World) (recall : Recall) (waiting : WaitingMessage) : Type 0 where
  pub row : row W waiting.message.site waiting.message.number
      ≡ Some (record { dest = waiting.to; recall = recall; item = waiting.item })
  pub told : waiting.told ≡ is_some (seen W waiting.to waiting.message)

abbrev pub waiting_cmp : WaitingMessage → WaitingMessage → Ordering
waiting_cmp a b = message_cmp a.message b.message

-- how the recall stands; all sites that it concerns, by number; and all its messages that wait, by site and number
pub record IsDetail (records : List Record) (recall : Recall) (detail : RecallDetail) : Type 0 where
  pub of_recall : detail.status.recall ≡ recall
  pub status : IsStatus records detail.status
  pub sites : AreAllBy standing_cmp (IsStanding (world_of records) recall) detail.sites
  pub waiting : AreAllBy waiting_cmp (IsWaiting (world_of records) recall) detail.waiting

-- a recall is unknown where the record of its site has no such own recall; memory runs out for known ones alone
abbrev pub TellsFault : World → Recall → QueryFault → Type 0
TellsFault W recall UnknownRecall = own W recall.site recall.number ≡ None
TellsFault W recall NoMemory = IsSome (own W recall.site recall.number)
