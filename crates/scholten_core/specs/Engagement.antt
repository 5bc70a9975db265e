-- What one site keeps of the diffusing computations that pass it.
--
-- After Dijkstra and Scholten, "Termination detection for diffusing computations", Information Processing
-- Letters 11 (1980), section 2. The deficits of the edges that leave the site are the rows of its outbox: a
-- recall's deficit is the number of its rows. A parent is the message that engaged the site, the engagement
-- edge. In this project each message has a number of its sender, a signal names the number that it answers, and
-- every message but the engaging one is signalled at once, so of the edges that enter the site only the parent
-- is kept.
use Rattle.std.specs.Prelude.{ℕ, Bool, ◌==◌, if◌then◌else◌, is_some, Option, None, refl}
use Rattle.std.specs.Ordering.{nat_cmp}
use Rattle.std.specs.Coded.{Coded, code_by, coded×, coded_ℕ}
use Rattle.std.specs.FinMap.{FinMap, code, get}
use Rattle.frame_core.specs.declared.rows.Row.{Row}
use Rattle.frame_core.specs.Numbers.{Recall, Message, coded_recall, coded_message}
use Rattle.frame_core.specs.Identifiers.{recall_cmp, message_cmp}
use Rattle.frame_core.specs.Unsignalled.{coded_row}
use Rattle.scholten_core.specs.declared.own_recalls.Own.{Own}
use Rattle.scholten_core.specs.OwnRecalls.{unless_ended}
use Rattle.scholten_core.specs.Codes.{coded_own}

pub record Engagement : Type 0 where
  -- the site's own number
  pub me : ℕ
  -- its messages that are not signalled yet, by number
  pub outbox : FinMap nat_cmp Row
  -- the messages of others that it ever handled, each with its recall
  pub seen : FinMap message_cmp Recall
  -- the recalls that it is engaged for, each with its parent
  pub parents : FinMap recall_cmp Message
  -- the recalls that it began, by number
  pub own : FinMap nat_cmp Own
  -- the numbers of its next message and of its next recall
  pub next_message : ℕ
  pub next_recall : ℕ

abbrev pub coded_engagement : Coded Engagement
coded_engagement =
    code_by (ℕ × (FinMap nat_cmp Row × (FinMap message_cmp Recall × (FinMap recall_cmp Message × (FinMap nat_cmp Own × (ℕ × ℕ))))))
    (coded× coded_ℕ (coded× (code coded_ℕ coded_row) (coded× (code coded_message coded_recall) (coded× (code coded_recall coded_message) (coded× (code coded_ℕ coded_own) (coded× coded_ℕ coded_ℕ))))))
    (λ e. (e.me, (e.outbox, (e.seen, (e.parents, (e.own, (e.next_message, e.next_recall)))))))
    (λ p. record { me = p.0; outbox = p.1.0; seen = p.1.1.0; parents = p.1.1.1.0; own = p.1.1.1.1.0; next_message = p.1.1.1.1.1.0; next_recall = p.1.1.1.1.1.1 })
    (λ _. refl)

-- the site's own recall that r names, where the site began it and hasn't recorded its end
abbrev pub live_own : Engagement → Recall → Option Own
live_own e r = if e.me == r.site then unless_ended (get e.own r.number) else None

-- the site is the live initiator of the recall
abbrev pub is_live : Engagement → Recall → Bool
is_live e r = is_some (live_own e r)
