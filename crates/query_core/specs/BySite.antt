-- How recalls stand, site by site, in the order in which the sites are gone over.
use Rattle.std.specs.Prelude.{◌≡◌, ℕ, Bool, cond, List, [], ◌∷◌, map, filter, sum_by, is_some, not, ◌==◌, ◌||◌}
use Rattle.std.specs.FinMap as finite
use Rattle.frame_core.specs.Counts.{count_in}
use Rattle.frame_core.specs.Identifiers.{recall_cmp, same_recall}
use Rattle.frame_core.specs.Numbers.{Recall}
use Rattle.frame_core.specs.declared.rows.Row.{Row}
use Rattle.scholten_core.specs.declared.own_recalls.Own.{Own}
use Rattle.site_core.specs.Records.{Record}
use Rattle.site_recovery.specs.Looks.{World, seen}
use Rattle.query_core.specs.Recalls.{quarantined_count, waiting_count}
use Rattle.query_core.specs.declared.recalls.RecallStatus.{RecallStatus}
use Rattle.query_core.specs.declared.recalls.SiteStanding.{SiteStanding}
use Rattle.query_core.specs.declared.recalls.WaitingMessage.{WaitingMessage}

abbrev pub status_of : List Record → Recall → Own → RecallStatus
status_of records recall entry =
    record {
      recall = recall;
      root = entry.root;
      ended = entry.ended;
      quarantined = sum_by (quarantined_count recall) records;
      waiting = sum_by (waiting_count recall) records;
    }

-- the recalls that one site began, by number
abbrev pub statuses_by : List Record → Record → List RecallStatus
statuses_by records r =
    map (λ (e : ℕ × Own). status_of records (record { site = r.engagement.me; number = e.0 }) e.1)
    (finite.entries r.engagement.own)

abbrev pub standing_of : Recall → Record → SiteStanding
standing_of recall r =
    record {
      site = r.engagement.me;
      quarantined = quarantined_count recall r;
      waiting = waiting_count recall r;
      engaged_by = finite.get r.engagement.parents recall;
    }

abbrev pub is_concerned : SiteStanding → Bool
is_concerned standing = not (standing.quarantined == 0) || (not (standing.waiting == 0) || is_some standing.engaged_by)

-- what it is to one site, if it concerns the site
abbrev pub standings_at : Recall → Record → List SiteStanding
standings_at recall r = cond (is_concerned (standing_of recall r)) (standing_of recall r ∷ []) []

abbrev pub waiting_as : World → ℕ → ℕ × Row → WaitingMessage
waiting_as W site e =
    record {
      message = record { site = site; number = e.0 };
      to = e.1.dest;
      item = e.1.item;
      told = is_some (seen W e.1.dest (record { site = site; number = e.0 }));
    }

-- the messages of the recall that one site's outbox has, by number
abbrev pub waiting_from : World → Recall → Record → List WaitingMessage
waiting_from W recall r =
    map (waiting_as W r.engagement.me)
    (filter (λ (e : ℕ × Row). same_recall e.1.recall recall) (finite.entries r.engagement.outbox))

-- of each recall so many messages are in all outboxes
abbrev pub AreWaitingCounts : List Record → finite.FinMap recall_cmp ℕ → Type 0
AreWaitingCounts records counts = (recall : Recall) → count_in counts recall ≡ sum_by (waiting_count recall) records
