-- Which sites a recall waits at in vain: they take part in it, and no message of theirs can bring a signal that would end that.
use Rattle.std.specs.Prelude.{◌≡◌, ◌↔◌, ℕ, Bool, List, ◌++◌, map, filter, not, ◌==◌, ◌&&◌, Contains}
use Rattle.std.specs.FinMap as finite
use Rattle.frame_core.specs.Counts.{count_in}
use Rattle.frame_core.specs.Identifiers.{recall_cmp}
use Rattle.frame_core.specs.Laws.{IsRowOf}
use Rattle.frame_core.specs.Numbers.{Message, Recall}
use Rattle.frame_core.specs.Outboxes.{rows_of}
use Rattle.scholten_core.specs.Engagement.{Engagement}
use Rattle.scholten_core.specs.Laws.{IsOwned}
use Rattle.scholten_core.specs.declared.own_recalls.Own.{Own}
use Rattle.site_core.specs.Records.{Record}
use Rattle.query_core.specs.declared.stuck.StuckRecall.{StuckRecall}

abbrev pub stuck_as : Engagement → Recall → StuckRecall
stuck_as e recall = record { recall = recall; site = e.me }

-- no message of the recall waits there for its signal
abbrev pub awaits_none : Engagement → Recall → Bool
awaits_none e recall = rows_of e.outbox recall == 0

-- of each recall so many messages wait there
abbrev pub AreRowCounts : Engagement → finite.FinMap recall_cmp ℕ → Type 0
AreRowCounts e counts = (recall : Recall) → count_in counts recall ≡ rows_of e.outbox recall

-- of the recalls that the site is engaged for, in their order, those that it is stuck in
abbrev pub stuck_engaged : Engagement → List StuckRecall
stuck_engaged e = map (λ (p : Recall × Message). stuck_as e p.0) (filter (λ (p : Recall × Message). awaits_none e p.0) (finite.entries e.parents))

-- the recall that the site began under this number
abbrev pub own_of : Engagement → ℕ → Recall
own_of e number = record { site = e.me; number = number }

-- so of those that it began, by number, and that haven't ended
abbrev pub stuck_own : Engagement → List StuckRecall
stuck_own e =
    map (λ (p : ℕ × Own). stuck_as e (own_of e p.0))
    (filter (λ (p : ℕ × Own). not p.1.ended && awaits_none e (own_of e p.0)) (finite.entries e.own))

abbrev pub stuck_from : Record → List StuckRecall
stuck_from r = stuck_engaged r.engagement ++ stuck_own r.engagement

-- The site takes part in the recall, engaged for it or as its live initiator, and has no message of it.
pub record IsStuck (e : Engagement) (stuck : StuckRecall) : Type 0 where
  pub site : stuck.site ≡ e.me
  pub owned : IsOwned e stuck.recall
  pub none : IsRowOf e.outbox stuck.recall → ⊥

-- That is what is told of the records: nothing else, and nothing is left out.
abbrev pub StuckAreTold : Type 0
StuckAreTold = (r : Record) (stuck : StuckRecall) → Contains (stuck_from r) stuck ↔ IsStuck r.engagement stuck
