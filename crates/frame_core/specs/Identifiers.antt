-- The orders of recalls and of messages, by site, then number, and when two are one.
use Rattle.std.specs.Prelude.{Bool, ◌==◌, ◌&&◌}
use Rattle.std.specs.Ordering.{nat_cmp, ordering_then}
use Rattle.std.specs.declared.cmp.Ordering.{Ordering}
use Rattle.frame_core.specs.Numbers.{Recall, Message}

-- by site, then number
abbrev pub recall_cmp : Recall → Recall → Ordering
recall_cmp a b = ordering_then (nat_cmp a.site b.site) (nat_cmp a.number b.number)

-- by sender, then number
abbrev pub message_cmp : Message → Message → Ordering
message_cmp a b = ordering_then (nat_cmp a.site b.site) (nat_cmp a.number b.number)

-- whether the two are one recall
abbrev pub same_recall : Recall → Recall → Bool
same_recall a b = (a.site == b.site) && (a.number == b.number)

-- whether the two are one message
abbrev pub same_message : Message → Message → Bool
same_message a b = (a.site == b.site) && (a.number == b.number)
