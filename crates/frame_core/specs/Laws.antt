-- Laws of numbering, of deficits, of the messages of a recall, and of the orders of recalls and messages.
--
-- A deficit falls and rises as in Dijkstra and Scholten, "Termination detection for diffusing computations",
-- Information Processing Letters 11 (1980), section 2: by one for each message, and by one for each signal.
use Rattle.std.specs.Prelude.{◌≡◌, ◌≢◌, ◌⊎◌, ◌↔◌, ℕ, ◌+◌, ◌<◌, ◌≤◌, IsTrue, IsFalse, List, length, slice_get, Some, None}
use Rattle.std.specs.Ordering.{nat_cmp}
use Rattle.std.specs.FinMap.{FinMap, get, remove}
use Rattle.std.specs.FinSet.{contains}
use Rattle.frame_core.specs.declared.rows.Row.{Row}
use Rattle.frame_core.specs.Numbers.{Recall, Message}
use Rattle.frame_core.specs.Identifiers.{message_cmp, same_recall, same_message}
use Rattle.frame_core.specs.Messages.{messages_known}
use Rattle.frame_core.specs.Outboxes.{numbered, rows_of, has_rows}

-- numbering leaves the rows below the first number
abbrev pub EarlierRowsStay : Type 0
EarlierRowsStay =
    (rows : FinMap nat_cmp Row) (n : ℕ) (r : Recall) (out : List (ℕ × List ℕ)) (q : ℕ)
    → q < n → get (numbered rows n r out) q ≡ get rows q

-- and those from the next number on, of which only a restored outbox has any
abbrev pub LaterRowsStay : Type 0
LaterRowsStay =
    (rows : FinMap nat_cmp Row) (n : ℕ) (r : Recall) (out : List (ℕ × List ℕ)) (q : ℕ)
    → n + length out ≤ q → get (numbered rows n r out) q ≡ get rows q

-- each message has its row, at its number
abbrev pub EachMessageHasItsRow : Type 0
EachMessageHasItsRow =
    (rows : FinMap nat_cmp Row) (n : ℕ) (r : Recall) (out : List (ℕ × List ℕ)) (place : ℕ) (pair : ℕ × List ℕ)
    → slice_get out place ≡ Some pair → get (numbered rows n r out) (n + place) ≡ Some (record { dest = pair.0; recall = r; item = pair.1 })

-- the row x at the number q is that of one of the messages, numbered from n on
pub record IsNewRow (n : ℕ) (r : Recall) (out : List (ℕ × List ℕ)) (q : ℕ) (x : Row) : Type 0 where
  pub place : ℕ
  pub number : q ≡ n + place
  pub message : slice_get out place ≡ Some (x.dest, x.item)
  pub recall : x.recall ≡ r

-- a row afterwards was there before, or is that of one of the messages
abbrev pub RowsAreOldOrNew : Type 0
RowsAreOldOrNew =
    (rows : FinMap nat_cmp Row) (n : ℕ) (r : Recall) (out : List (ℕ × List ℕ)) (q : ℕ) (x : Row)
    → get (numbered rows n r out) q ≡ Some x → (get rows q ≡ Some x) ⊎ IsNewRow n r out q x

-- two recalls are the same where they are equal
abbrev pub SameRecallsAreEqual : Type 0
SameRecallsAreEqual = (a b : Recall) → IsTrue (same_recall a b) ↔ (a ≡ b)

-- and so are two messages
abbrev pub SameMessagesAreEqual : Type 0
SameMessagesAreEqual = (a b : Message) → IsTrue (same_message a b) ↔ (a ≡ b)

-- some number has a row of the recall
pub record IsRowOf (rows : FinMap nat_cmp Row) (r : Recall) : Type 0 where
  pub number : ℕ
  pub row : Row
  pub stands : get rows number ≡ Some row
  pub of_recall : row.recall ≡ r

-- no number has one
abbrev pub HasNoRows : FinMap nat_cmp Row → Recall → Type 0
HasNoRows rows r = (n : ℕ) (x : Row) → get rows n ≡ Some x → x.recall ≢ r

-- a recall has rows where some number has a row of it
abbrev pub RowsAreFound : Type 0
RowsAreFound = (rows : FinMap nat_cmp Row) (r : Recall) → IsTrue (has_rows rows r) ↔ IsRowOf rows r

-- and its deficit is 0 where it has none
abbrev pub NoDeficitNoRows : Type 0
NoDeficitNoRows = (rows : FinMap nat_cmp Row) (r : Recall) → (rows_of rows r ≡ 0) ↔ IsFalse (has_rows rows r)

-- no row stands at a number from n on
abbrev pub AreUnused : FinMap nat_cmp Row → ℕ → Type 0
AreUnused rows n = (q : ℕ) → n ≤ q → get rows q ≡ None

-- messages that get unused numbers raise the deficit of their recall by one each
abbrev pub MessagesRaiseTheDeficit : Type 0
MessagesRaiseTheDeficit =
    (rows : FinMap nat_cmp Row) (n : ℕ) (r : Recall) (out : List (ℕ × List ℕ))
    → AreUnused rows n → rows_of (numbered rows n r out) r ≡ rows_of rows r + length out

-- and that of no other
abbrev pub MessagesLeaveOtherDeficits : Type 0
MessagesLeaveOtherDeficits =
    (rows : FinMap nat_cmp Row) (n : ℕ) (r other : Recall) (out : List (ℕ × List ℕ))
    → AreUnused rows n → other ≢ r → rows_of (numbered rows n r out) other ≡ rows_of rows other

-- a row that is cleared lowers the deficit of its recall by one
abbrev pub SignalLowersTheDeficit : Type 0
SignalLowersTheDeficit =
    (rows : FinMap nat_cmp Row) (n : ℕ) (x : Row)
    → get rows n ≡ Some x → rows_of (remove rows n) x.recall + 1 ≡ rows_of rows x.recall

-- and that of no other
abbrev pub SignalLeavesOtherDeficits : Type 0
SignalLeavesOtherDeficits =
    (rows : FinMap nat_cmp Row) (n : ℕ) (x : Row) (other : Recall)
    → get rows n ≡ Some x → other ≢ x.recall → rows_of (remove rows n) other ≡ rows_of rows other

-- a message is known of a recall where its row stands under the recall, or it was seen under the recall
abbrev pub MessagesAreKnown : Type 0
MessagesAreKnown =
    (me : ℕ) (rows : FinMap nat_cmp Row) (seen : FinMap message_cmp Recall) (r : Recall) (m : Message)
    → IsTrue (contains (messages_known me rows seen r) m) ↔ (((m.site ≡ me) × (x : Row) × (get rows m.number ≡ Some x) × (x.recall ≡ r)) ⊎ (get seen m ≡ Some r))
