-- The messages of a recall that one site knows of: those that stand under the recall in its outbox, and those
-- that it has seen under the recall.
use Rattle.std.specs.Prelude.{ℕ, map, filter}
use Rattle.std.specs.Ordering.{nat_cmp}
use Rattle.std.specs.FinMap.{FinMap, entries}
use Rattle.std.specs.FinSet.{FinSet, from_list, union}
use Rattle.frame_core.specs.Numbers.{Recall}
use Rattle.frame_core.specs.declared.rows.Row.{Row}
use Rattle.frame_core.specs.Identifiers.{message_cmp, same_recall}

-- the site's own messages of the recall that are not signalled: each is the site and its number
abbrev pub messages_sent : ℕ → FinMap nat_cmp Row → Recall → FinSet message_cmp
messages_sent me rows r = from_list (map (λ e. record { site = me; number = e.0 }) (filter (λ e. same_recall e.1.recall r) (entries rows)))

-- the messages that the site saw under the recall
abbrev pub messages_seen : FinMap message_cmp Recall → Recall → FinSet message_cmp
messages_seen seen r = from_list (map (λ e. e.0) (filter (λ e. same_recall e.1 r) (entries seen)))

-- both
abbrev pub messages_known : ℕ → FinMap nat_cmp Row → FinMap message_cmp Recall → Recall → FinSet message_cmp
messages_known me rows seen r = union (messages_sent me rows r) (messages_seen seen r)
