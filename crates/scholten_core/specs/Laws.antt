-- Laws of engagement: what a recall that begins, a message and a signal change and answer, that this fixes the
-- engagement afterwards, and that rows have an owner.
--
-- After Dijkstra and Scholten, "Termination detection for diffusing computations", Information Processing
-- Letters 11 (1980), section 2: an engaged site keeps its engagement edge until its deficit is zero.
use Rattle.std.specs.Prelude.{◌≡◌, ◌⊎◌, ℕ, List, Some, None}
use Rattle.std.specs.FinMap.{get}
use Rattle.frame_core.specs.Numbers.{Recall, Message}
use Rattle.frame_core.specs.Outboxes.{rows_of}
use Rattle.frame_core.specs.declared.rows.Row.{Row}
use Rattle.scholten_core.specs.declared.outcomes.Began.{Began}
use Rattle.scholten_core.specs.declared.outcomes.Received.{Received}
use Rattle.scholten_core.specs.declared.outcomes.Received.TheVariants.{Repeat}
use Rattle.scholten_core.specs.declared.outcomes.Signalled.{Signalled}
use Rattle.scholten_core.specs.declared.outcomes.Signalled.TheVariants.{Stale}
use Rattle.scholten_core.specs.Engagement.{Engagement}
use Rattle.scholten_core.specs.Changes.{begun, began, received, signalled}
use Rattle.scholten_core.specs.Effects.{IsEngaged, IsLive, Begins, Takes, Clears}
use Rattle.scholten_core.specs.Replies.{TellsBegun, TellsTaken, TellsCleared}

-- The definitions.

-- a recall that is begun begins, and the answer says so
abbrev pub BegunBegins : Type 0
BegunBegins = (e : Engagement) (root : List ℕ) (out : List (ℕ × List ℕ)) → Begins e (begun e root out) root out × TellsBegun e (begun e root out) (began e out)

-- a message that wasn't seen is taken, and the answer says what became of it
abbrev pub UnseenIsTaken : Type 0
UnseenIsTaken =
    (e : Engagement) (m : Message) (r : Recall) (out : List (ℕ × List ℕ))
    → get e.seen m ≡ None → Takes e (received e m r out).0 m r out × TellsTaken e (received e m r out).0 m r (received e m r out).1

-- a message that was seen is a repeat, and changes nothing
abbrev pub SeenIsRepeat : Type 0
SeenIsRepeat =
    (e : Engagement) (m : Message) (r : Recall) (out : List (ℕ × List ℕ)) (under : Recall)
    → get e.seen m ≡ Some under → received e m r out ≡ (e, Repeat)

-- a signal for a row that stands clears it, and the answer says what follows
abbrev pub StandingIsCleared : Type 0
StandingIsCleared =
    (e : Engagement) (n : ℕ) (x : Row)
    → get e.outbox n ≡ Some x → Clears e (signalled e n).0 n x × TellsCleared e (signalled e n).0 x.recall (signalled e n).1

-- a signal for a number without a row is stale, and changes nothing
abbrev pub NoRowIsStale : Type 0
NoRowIsStale = (e : Engagement) (n : ℕ) → get e.outbox n ≡ None → signalled e n ≡ (e, Stale)

-- What they fix: two engagements afterwards are one, and so are two answers.

abbrev pub BeginsFixes : Type 0
BeginsFixes = (old one two : Engagement) (root : List ℕ) (out : List (ℕ × List ℕ)) → Begins old one root out → Begins old two root out → one ≡ two

abbrev pub TakesFixes : Type 0
TakesFixes = (old one two : Engagement) (m : Message) (r : Recall) (out : List (ℕ × List ℕ)) → Takes old one m r out → Takes old two m r out → one ≡ two

abbrev pub ClearsFixes : Type 0
ClearsFixes = (old one two : Engagement) (n : ℕ) (x : Row) → Clears old one n x → Clears old two n x → one ≡ two

abbrev pub BegunAnswerIsFixed : Type 0
BegunAnswerIsFixed = (old new : Engagement) (a b : Began) → TellsBegun old new a → TellsBegun old new b → a ≡ b

abbrev pub TakenAnswerIsFixed : Type 0
TakenAnswerIsFixed = (old new : Engagement) (m : Message) (r : Recall) (a b : Received) → TellsTaken old new m r a → TellsTaken old new m r b → a ≡ b

abbrev pub ClearedAnswerIsFixed : Type 0
ClearedAnswerIsFixed = (old new : Engagement) (r : Recall) (a b : Signalled) → TellsCleared old new r a → TellsCleared old new r b → a ≡ b

-- Rows have an owner.

-- the site is engaged for the recall, or is its live initiator
abbrev pub IsOwned : Engagement → Recall → Type 0
IsOwned e r = IsEngaged e r ⊎ IsLive e r

-- the site has rows of such recalls alone
abbrev pub RowsHaveAnOwner : Engagement → Type 0
RowsHaveAnOwner e = (n : ℕ) (x : Row) → get e.outbox n ≡ Some x → IsOwned e x.recall

-- to begin a recall under an unused number keeps that
abbrev pub BeginningKeepsOwners : Type 0
BeginningKeepsOwners =
    (old new : Engagement) (root : List ℕ) (out : List (ℕ × List ℕ))
    → Begins old new root out → get old.own old.next_recall ≡ None → RowsHaveAnOwner old → RowsHaveAnOwner new

-- so does a message that is taken
abbrev pub TakingKeepsOwners : Type 0
TakingKeepsOwners =
    (old new : Engagement) (m : Message) (r : Recall) (out : List (ℕ × List ℕ))
    → Takes old new m r out → RowsHaveAnOwner old → RowsHaveAnOwner new

-- and a row that is cleared
abbrev pub ClearingKeepsOwners : Type 0
ClearingKeepsOwners = (old new : Engagement) (n : ℕ) (x : Row) → Clears old new n x → RowsHaveAnOwner old → RowsHaveAnOwner new

-- then a site that is neither engaged for a recall nor its live initiator has a deficit of zero
abbrev pub NeutralSitesHaveNoDeficit : Type 0
NeutralSitesHaveNoDeficit = (e : Engagement) (r : Recall) → RowsHaveAnOwner e → get e.parents r ≡ None → ¬ IsLive e r → rows_of e.outbox r ≡ 0
