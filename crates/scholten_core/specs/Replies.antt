-- What each change returns, by what it changed: one case for each answer, and the cases exclude one another.
use Rattle.std.specs.Prelude.{◌≡◌, ◌⊎◌, ◌+◌, Some, None}
use Rattle.std.specs.FinMap.{get}
use Rattle.frame_core.specs.Numbers.{Recall, Message}
use Rattle.frame_core.specs.Laws.{IsRowOf, HasNoRows}
use Rattle.scholten_core.specs.declared.own_recalls.Own.{Own}
use Rattle.scholten_core.specs.declared.outcomes.Began.{Began}
use Rattle.scholten_core.specs.declared.outcomes.Received.{Received}
use Rattle.scholten_core.specs.declared.outcomes.Received.TheVariants.{Repeat, Owe, SignalNow}
use Rattle.scholten_core.specs.declared.outcomes.Signalled.{Signalled}
use Rattle.scholten_core.specs.declared.outcomes.Signalled.TheVariants.{Stale, Cleared, ParentDue, Ended}
use Rattle.scholten_core.specs.Engagement.{Engagement}
use Rattle.scholten_core.specs.Effects.{IsLive}

-- the recall that began, how many numbers its messages took, and whether it ended
pub record TellsBegun (old new : Engagement) (answer : Began) : Type 0 where
  pub recall : answer.recall ≡ record { site = old.me; number = old.next_recall }
  pub numbered : new.next_message ≡ old.next_message + answer.numbered
  pub ended : (o : Own) × (get new.own old.next_recall ≡ Some o) × (answer.ended ≡ o.ended)

-- the message became the parent for the recall
abbrev pub BecomesParent : Engagement → Engagement → Message → Recall → Type 0
BecomesParent old new m r = (get old.parents r ≡ None) × (get new.parents r ≡ Some m)

-- a message that was taken is owed its signal where it became the parent, and else its signal is due
abbrev pub TellsTaken : Engagement → Engagement → Message → Recall → Received → Type 0
TellsTaken old new m r Repeat = ⊥
TellsTaken old new m r (Owe numbered) = BecomesParent old new m r × (new.next_message ≡ old.next_message + numbered)
TellsTaken old new m r (SignalNow numbered) = ¬ BecomesParent old new m r × (new.next_message ≡ old.next_message + numbered)

-- where the row that was cleared was the recall's last one, the parent is due, or the recall of a live initiator
-- has ended; else it is cleared, and nothing follows
abbrev pub TellsCleared : Engagement → Engagement → Recall → Signalled → Type 0
TellsCleared old new r Stale = ⊥
TellsCleared old new r Cleared = IsRowOf new.outbox r ⊎ ((get old.parents r ≡ None) × ¬ IsLive old r)
TellsCleared old new r (ParentDue parent) = (get old.parents r ≡ Some parent) × HasNoRows new.outbox r
TellsCleared old new r (Ended q) = (q ≡ r) × (get old.parents r ≡ None) × IsLive old r × HasNoRows new.outbox r
