-- What one event changes in the records of all sites, at the site s: what is kept, and where what is found comes from.
use Rattle.std.specs.Prelude.{◌≡◌, ◌⊎◌, ℕ, ◌<◌, ◌≤◌, IsTrue, List, Some, None}
use Rattle.frame_core.specs.Numbers.{Recall, Message}
use Rattle.frame_core.specs.declared.rows.Row.{Row}
use Rattle.scholten_core.specs.declared.own_recalls.Own.{Own}
use Rattle.site_core.specs.Ways as ways
use Rattle.site_recovery.specs.Fit.{Announces, IsLive, IsEngaged, NoRows}
use Rattle.site_recovery.specs.Looks.{World, Makes, Ships, Held, row, seen, parent, own, next_message, next_recall}

-- a fresh event came, and leads no quarantined item out of its quarantine
pub record Grows (V W : World) (s : ℕ) : Type 0 where
  pub sites : (t : ℕ) → (W t).sites ≡ (V t).sites
  pub quarantine : (t : ℕ) → (W t).quarantine ≡ (V t).quarantine
  pub engagement : (t : ℕ) → (W t).engagement ≡ (V t).engagement
  pub makes_kept : (t : ℕ) (i j : List ℕ) → Makes V t i j → Makes W t i j
  pub ships_kept : (t : ℕ) (i : List ℕ) (u : ℕ) → Ships V t i u → Ships W t i u
  pub makes_origin : (t : ℕ) (i j : List ℕ) → Makes W t i j → Makes V t i j ⊎ ((t ≡ s) × ((r : Recall) → Held V s r i → Held V s r j))
  pub ships_origin : (t : ℕ) (i : List ℕ) (u : ℕ) → Ships W t i u → Ships V t i u ⊎ ((t ≡ s) × ((r : Recall) → Held V s r i → ⊥))

-- a row of this event
pub record IsNewRow (V W : World) (s : ℕ) (r : Recall) (n : ℕ) (x : Row) : Type 0 where
  pub above : next_message V s ≤ n
  pub below : n < next_message W s
  pub recall : x.recall ≡ r
  pub held : Held W s r x.item
  pub shipped : Ships W s x.item x.dest

-- the spread of the item comes under the recall, which a start and a message that is taken share
pub record Spreads (V W : World) (s : ℕ) (r : Recall) (item : List ℕ) : Type 0 where
  pub captured : (t : ℕ) → (W t).captured ≡ (V t).captured
  pub held_kept : (t : ℕ) (q : Recall) (i : List ℕ) → Held V t q i → Held W t q i
  pub held_origin : (t : ℕ) (q : Recall) (i : List ℕ) → Held W t q i → Held V t q i ⊎ ((t ≡ s) × (q ≡ r) × ways.Spreads (V s) item i)
  pub held_spread : (i : List ℕ) → ways.Spreads (V s) item i → Held W s r i
  pub row_kept : (t n : ℕ) (x : Row) → n < next_message V t → row V t n ≡ Some x → row W t n ≡ Some x
  pub row_origin : (t n : ℕ) (x : Row) → row W t n ≡ Some x → (row V t n ≡ Some x) ⊎ ((t ≡ s) × IsNewRow V W s r n x)
  pub row_told : (i : List ℕ) (t : ℕ) → Held W s r i → (Held V s r i → ⊥) → Ships V s i t → Announces W s t r i
  pub next_up : (t : ℕ) → next_message V t ≤ next_message W t

-- a message of the recall came that wasn't seen
pub record Takes (V W : World) (s : ℕ) (m : Message) (r : Recall) (item : List ℕ) : Type 0 where
  pub spreads : Spreads V W s r item
  pub unseen : seen V s m ≡ None
  pub seen_kept : (t : ℕ) (p : Message) (q : Recall) → seen V t p ≡ Some q → seen W t p ≡ Some q
  pub seen_origin : (t : ℕ) (p : Message) (q : Recall) → seen W t p ≡ Some q → (seen V t p ≡ Some q) ⊎ ((t ≡ s) × (p ≡ m) × (q ≡ r))
  pub seen_new : seen W s m ≡ Some r
  pub parent_kept : (t : ℕ) (q : Recall) (p : Message) → parent V t q ≡ Some p → parent W t q ≡ Some p
  pub parent_origin : (t : ℕ) (q : Recall) (p : Message) → parent W t q ≡ Some p → (parent V t q ≡ Some p) ⊎ ((t ≡ s) × (q ≡ r) × (p ≡ m) × ((s ≡ r.site) → IsLive V r → ⊥))
  pub engages : (n : ℕ) (x : Row) → row W s n ≡ Some x → x.recall ≡ r → IsEngaged W s r ⊎ ((s ≡ r.site) × IsLive V r)
  pub own : (t k : ℕ) → own W t k ≡ own V t k
  pub next_recall : (t : ℕ) → next_recall W t ≡ next_recall V t

-- s's own recall k is of this row's recall, and no row of it is left
abbrev pub IsOver : World → ℕ → Row → ℕ → ℕ → Type 0
IsOver W s x t k = (t ≡ s) × (x.recall ≡ record { site = t; number = k }) × NoRows W s x.recall

-- a signal came for the row x of the number n
pub record Clears (V W : World) (s n : ℕ) (x : Row) : Type 0 where
  pub was : row V s n ≡ Some x
  pub captured : (t : ℕ) → (W t).captured ≡ (V t).captured
  pub quarantine : (t : ℕ) → (W t).quarantine ≡ (V t).quarantine
  pub seen : (t : ℕ) (p : Message) → seen W t p ≡ seen V t p
  pub next_message : (t : ℕ) → next_message W t ≡ next_message V t
  pub next_recall : (t : ℕ) → next_recall W t ≡ next_recall V t
  pub row_kept : (t k : ℕ) (y : Row) → row V t k ≡ Some y → (row W t k ≡ Some y) ⊎ ((t ≡ s) × (k ≡ n))
  pub row_origin : (t k : ℕ) (y : Row) → row W t k ≡ Some y → row V t k ≡ Some y
  pub parent_kept : (t : ℕ) (q : Recall) (p : Message) → parent V t q ≡ Some p → (parent W t q ≡ Some p) ⊎ ((t ≡ s) × (q ≡ x.recall) × NoRows W s x.recall)
  pub parent_origin : (t : ℕ) (q : Recall) (p : Message) → parent W t q ≡ Some p → parent V t q ≡ Some p
  pub own_kept : (t k : ℕ) (o : Own) → own V t k ≡ Some o → (p : Own) × (own W t k ≡ Some p) × (p.root ≡ o.root) × ((p.ended ≡ o.ended) ⊎ (IsTrue p.ended × IsOver W s x t k))
  pub own_origin : (t k : ℕ) (p : Own) → own W t k ≡ Some p → (o : Own) × (own V t k ≡ Some o) × (p.root ≡ o.root) × ((p.ended ≡ o.ended) ⊎ (IsTrue p.ended × IsOver W s x t k))

-- the site began its next recall from the item, and it ended at once or not
pub record Opens (V W : World) (s : ℕ) (item : List ℕ) (o : Own) : Type 0 where
  pub spreads : Spreads V W s (record { site = s; number = next_recall V s }) item
  pub root : o.root ≡ item
  pub seen : (t : ℕ) (p : Message) → seen W t p ≡ seen V t p
  pub parent : (t : ℕ) (q : Recall) → parent W t q ≡ parent V t q
  pub own_kept : (t k : ℕ) (p : Own) → k < next_recall V t → own V t k ≡ Some p → own W t k ≡ Some p
  pub own_origin : (t k : ℕ) (p : Own) → own W t k ≡ Some p → (own V t k ≡ Some p) ⊎ ((t ≡ s) × (k ≡ next_recall V s) × (p ≡ o))
  pub own_new : own W s (next_recall V s) ≡ Some o
  pub at_once : IsTrue o.ended → NoRows V s (record { site = s; number = next_recall V s }) → NoRows W s (record { site = s; number = next_recall V s })
  pub next_up : (t : ℕ) → next_recall V t ≤ next_recall W t
  pub next_recall : next_recall V s < next_recall W s
