-- How a site's engagement changes, and what each call returns: when it begins a recall, receives a message, or
-- is signalled that one of its messages is done.
--
-- After Dijkstra and Scholten, "Termination detection for diffusing computations", Information Processing
-- Letters 11 (1980), section 2. The rules hold for every record, also one that no run leads to: a row or an own
-- recall that stands at a next number is written over.
use Rattle.std.specs.Prelude.{ℕ, ◌+◌, ◌==◌, Bool, true, false, List, length, Option, Some, None}
use Rattle.std.specs.FinMap.{get, insert, remove}
use Rattle.frame_core.specs.declared.rows.Row.{Row}
use Rattle.frame_core.specs.Numbers.{Recall, Message}
use Rattle.frame_core.specs.Outboxes.{numbered, has_rows}
use Rattle.scholten_core.specs.declared.own_recalls.Own.{Own}
use Rattle.scholten_core.specs.declared.outcomes.Began.{Began}
use Rattle.scholten_core.specs.declared.outcomes.Received.{Received}
use Rattle.scholten_core.specs.declared.outcomes.Received.TheVariants.{Repeat, Owe, SignalNow}
use Rattle.scholten_core.specs.declared.outcomes.Signalled.{Signalled}
use Rattle.scholten_core.specs.declared.outcomes.Signalled.TheVariants.{Stale, Cleared, ParentDue, Ended}
use Rattle.scholten_core.specs.OwnRecalls.{with_end}
use Rattle.scholten_core.specs.Engagement.{Engagement, live_own}

-- The site starts the computation: the recall takes the next number, and its messages are numbered, each for a
-- destination and an item, in order. Where there is nobody to notify, it has ended.

abbrev pub next_own : Engagement → Recall
next_own e = record { site = e.me; number = e.next_recall }

abbrev pub begun : Engagement → List ℕ → List (ℕ × List ℕ) → Engagement
begun e root out = record e {
  outbox = numbered e.outbox e.next_message (next_own e) out;
  own = insert e.own e.next_recall (record { root = root; ended = length out == 0 });
  next_message = e.next_message + length out;
  next_recall = e.next_recall + 1;
}

abbrev pub began : Engagement → List (ℕ × List ℕ) → Began
began e out = record { recall = next_own e; numbered = length out; ended = length out == 0 }

-- A message arrives. Unless it was seen before, it is seen from now on, and the messages that it gives rise to
-- are numbered. It engages the site, as the parent, where the site has none for the recall, isn't the live
-- initiator, and then has messages of the recall that are not signalled. Otherwise its signal is due at once.

-- the message is seen, and its messages are numbered
abbrev pub noted : Engagement → Message → Recall → List (ℕ × List ℕ) → Engagement
noted e m r out = record e {
  outbox = numbered e.outbox e.next_message r out;
  seen = insert e.seen m r;
  next_message = e.next_message + length out;
}

-- the message becomes the parent
abbrev pub with_parent : Engagement → Recall → Message → Engagement
with_parent e r m = record e { parents = insert e.parents r m }

-- given whether rows of the recall are left, its parent, and the own recall where the site is its live initiator
abbrev pub engaged : Engagement → Message → Recall → ℕ → Bool → Option Message → Option Own → Engagement × Received
engaged e m r n false parent live = (e, SignalNow n)
engaged e m r n true (Some first) live = (e, SignalNow n)
engaged e m r n true None (Some own) = (e, SignalNow n)
engaged e m r n true None None = (with_parent e r m, Owe n)

-- given the recall that the message was seen under before
abbrev pub at_first : Engagement → Message → Recall → List (ℕ × List ℕ) → Option Recall → Engagement × Received
at_first e m r out (Some before) = (e, Repeat)
at_first e m r out None =
    let next = noted e m r out in
    engaged next m r (length out) (has_rows next.outbox r) (get next.parents r) (live_own next r)

abbrev pub received : Engagement → Message → Recall → List (ℕ × List ℕ) → Engagement × Received
received e m r out = at_first e m r out (get e.seen m)

-- A signal arrives for one of the site's messages: the row goes, and the deficit falls by one. Where it was the
-- recall's last row, the site is done with it: the parent goes, and its signal is due; at the live initiator the
-- computation has ended.

-- given whether rows of the recall are left, its parent, and the own recall where the site is its live initiator
abbrev pub settled : Engagement → Recall → Bool → Option Message → Option Own → Engagement × Signalled
settled e r true parent live = (e, Cleared)
settled e r false (Some parent) live = (record e { parents = remove e.parents r }, ParentDue parent)
settled e r false None (Some own) = (record e { own = insert e.own r.number (with_end own) }, Ended r)
settled e r false None None = (e, Cleared)

-- given the row that the signal is for
abbrev pub at_row : Engagement → ℕ → Option Row → Engagement × Signalled
at_row e n None = (e, Stale)
at_row e n (Some row) =
    let left = record e { outbox = remove e.outbox n } in
    settled left row.recall (has_rows left.outbox row.recall) (get left.parents row.recall) (live_own left row.recall)

abbrev pub signalled : Engagement → ℕ → Engagement × Signalled
signalled e n = at_row e n (get e.outbox n)
