-- What beginning a recall, taking a message and clearing a row leave of a site's maps: three records over the
-- engagement before and after, by look-ups alone.
--
-- Each look-up has at most three facts: what was found before stays (kept), what is found afterwards was found
-- before or is new (origin), and what is new is found (told, new). They hold for every record, also one that no
-- run leads to: what stands at a next number is written over.
use Rattle.std.specs.Prelude.{◌≡◌, ◌≢◌, ◌⊎◌, ℕ, ◌+◌, ◌<◌, ◌≤◌, ◌↔◌, IsTrue, IsFalse, List, [], length, slice_get, Some, None}
use Rattle.std.specs.FinMap.{get}
use Rattle.frame_core.specs.Numbers.{Recall, Message}
use Rattle.frame_core.specs.declared.rows.Row.{Row}
use Rattle.frame_core.specs.Laws.{IsNewRow, IsRowOf, HasNoRows}
use Rattle.scholten_core.specs.declared.own_recalls.Own.{Own}
use Rattle.scholten_core.specs.Engagement.{Engagement}

-- the site is engaged for the recall
abbrev pub IsEngaged : Engagement → Recall → Type 0
IsEngaged e r = (m : Message) × (get e.parents r ≡ Some m)

-- the site is the recall's live initiator: it began the recall, and hasn't recorded its end
pub record IsLive (e : Engagement) (r : Recall) : Type 0 where
  pub mine : e.me ≡ r.site
  pub own : Own
  pub known : get e.own r.number ≡ Some own
  pub unended : IsFalse own.ended

-- messages of the recall, for these destinations and items, got the next numbers in order
pub record AddsRows (old new : Engagement) (r : Recall) (out : List (ℕ × List ℕ)) : Type 0 where
  pub row_kept : (n : ℕ) (x : Row) → (n < old.next_message) ⊎ (new.next_message ≤ n) → get old.outbox n ≡ Some x → get new.outbox n ≡ Some x
  pub row_origin : (n : ℕ) (x : Row) → get new.outbox n ≡ Some x → (get old.outbox n ≡ Some x) ⊎ IsNewRow old.next_message r out n x
  pub row_told : (place : ℕ) (pair : ℕ × List ℕ) → slice_get out place ≡ Some pair
      → get new.outbox (old.next_message + place) ≡ Some (record { dest = pair.0; recall = r; item = pair.1 })
  pub next_message : new.next_message ≡ old.next_message + length out

-- an own recall that just began, from the root, with these messages: where there is nobody to notify it has ended
pub record IsBegun (o : Own) (root : List ℕ) (out : List (ℕ × List ℕ)) : Type 0 where
  pub begun_with : o.root ≡ root
  pub ends_at_once : IsTrue o.ended ↔ (out ≡ [])

-- A recall began from an item, and has the next number.
pub record Begins (old new : Engagement) (root : List ℕ) (out : List (ℕ × List ℕ)) : Type 0 where
  pub me : new.me ≡ old.me
  pub rows : AddsRows old new (record { site = old.me; number = old.next_recall }) out
  pub next_recall : new.next_recall ≡ old.next_recall + 1
  pub seen : (p : Message) → get new.seen p ≡ get old.seen p
  pub parent : (q : Recall) → get new.parents q ≡ get old.parents q
  pub own_kept : (k : ℕ) (o : Own) → k ≢ old.next_recall → get old.own k ≡ Some o → get new.own k ≡ Some o
  pub own_origin : (k : ℕ) (o : Own) → get new.own k ≡ Some o → (get old.own k ≡ Some o) ⊎ ((k ≡ old.next_recall) × IsBegun o root out)
  pub own_new : (o : Own) × (get new.own old.next_recall ≡ Some o) × IsBegun o root out

-- A message of a recall was taken, which wasn't seen before.
pub record Takes (old new : Engagement) (m : Message) (r : Recall) (out : List (ℕ × List ℕ)) : Type 0 where
  pub unseen : get old.seen m ≡ None
  pub me : new.me ≡ old.me
  pub rows : AddsRows old new r out
  pub next_recall : new.next_recall ≡ old.next_recall
  pub seen_kept : (p : Message) (q : Recall) → get old.seen p ≡ Some q → get new.seen p ≡ Some q
  pub seen_origin : (p : Message) (q : Recall) → get new.seen p ≡ Some q → (get old.seen p ≡ Some q) ⊎ ((p ≡ m) × (q ≡ r))
  pub seen_new : get new.seen m ≡ Some r
  pub parent_kept : (q : Recall) (p : Message) → get old.parents q ≡ Some p → get new.parents q ≡ Some p
  -- a new parent is this message, at a site that isn't the live initiator and then has rows of the recall
  pub parent_origin : (q : Recall) (p : Message) → get new.parents q ≡ Some p
      → (get old.parents q ≡ Some p) ⊎ ((q ≡ r) × (p ≡ m) × ¬ IsLive old r × IsRowOf new.outbox r)
  -- a site with rows of the recall is engaged for it or is its live initiator
  pub engages : IsRowOf new.outbox r → IsEngaged new r ⊎ IsLive old r
  pub own : (k : ℕ) → get new.own k ≡ get old.own k

-- the site's own recall k is r, of which no row is left, and the site isn't engaged for it
pub record IsOver (old new : Engagement) (r : Recall) (k : ℕ) : Type 0 where
  pub recall : r ≡ record { site = old.me; number = k }
  pub neutral : get old.parents r ≡ None
  pub none_left : HasNoRows new.outbox r

-- A signal cleared the row x of the number n.
pub record Clears (old new : Engagement) (n : ℕ) (x : Row) : Type 0 where
  pub was : get old.outbox n ≡ Some x
  pub me : new.me ≡ old.me
  pub next_message : new.next_message ≡ old.next_message
  pub next_recall : new.next_recall ≡ old.next_recall
  pub row_kept : (k : ℕ) (y : Row) → k ≢ n → get old.outbox k ≡ Some y → get new.outbox k ≡ Some y
  pub row_origin : (k : ℕ) (y : Row) → get new.outbox k ≡ Some y → get old.outbox k ≡ Some y
  pub row_gone : get new.outbox n ≡ None
  pub seen : (p : Message) → get new.seen p ≡ get old.seen p
  -- a parent goes with the last row of the recall, and not before
  pub parent_kept : (q : Recall) (p : Message) → get old.parents q ≡ Some p → (get new.parents q ≡ Some p) ⊎ ((q ≡ x.recall) × HasNoRows new.outbox x.recall)
  pub parent_origin : (q : Recall) (p : Message) → get new.parents q ≡ Some p → get old.parents q ≡ Some p
  pub parent_gone : HasNoRows new.outbox x.recall → get new.parents x.recall ≡ None
  -- so does the site's own recall end, and its root stays
  pub own_kept : (k : ℕ) (o : Own) → get old.own k ≡ Some o
      → (p : Own) × (get new.own k ≡ Some p) × (p.root ≡ o.root) × ((p.ended ≡ o.ended) ⊎ (IsTrue p.ended × IsOver old new x.recall k))
  pub own_origin : (k : ℕ) (p : Own) → get new.own k ≡ Some p
      → (o : Own) × (get old.own k ≡ Some o) × (p.root ≡ o.root) × ((p.ended ≡ o.ended) ⊎ (IsTrue p.ended × IsOver old new x.recall k))
  pub own_ended : (k : ℕ) (p : Own) → get new.own k ≡ Some p → IsOver old new x.recall k → IsTrue p.ended
