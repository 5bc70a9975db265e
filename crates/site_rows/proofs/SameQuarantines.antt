-- The rows of a quarantine determine what is held.
use Rattle.std.proofs.Common.{◌≡◌, inl, inr, ℕ, true, List, [], ◌∷◌, Option, Some, None, refl, sym, ap, subst, ◌∙◌}
use mathlib.Core.Bool.{false≢true}
use Rattle.std.specs.Prelude.{IsTrue, is_some}
use Rattle.std.specs.FinMap.{get, entries}
use Rattle.std.specs.List.{Contains, flat_map}
use Rattle.std.proofs.lemmas.List.Elements.{Contains-append_cases}
use Rattle.frame_core.specs.Numbers.{Recall}
use Rattle.frame_core.specs.Orders.{recall_total, recall_exact}
use Rattle.trace_core.proofs.Members.{contains_here, contains_there, contains_none, contains-map, contains-flat_map}
use Rattle.trace_core.proofs.SetMembers.{contains-from_map}
use Rattle.site_core.specs.ItemSets as set
use Rattle.site_core.specs.ItemSets.{Items}
use Rattle.site_core.specs.Quarantines.{Quarantine, held, or_none, HasNoEmptySet}
use Rattle.site_core.proofs.Held.{none_held}
use Rattle.site_core.proofs.HeldLaws.{held_is_all}
use Rattle.site_core.proofs.ItemOrder.{item_total, item_exact}
use Rattle.site_rows.specs.declared.rows.QuarantineRow.{QuarantineRow}
use Rattle.site_rows.specs.RecordRows.{quarantine_row, quarantine_rows}
use Rattle.site_core.proofs.Entries.{entry_found, entry_there}
use Rattle.site_rows.proofs.SameRecalls.{same_recall_of}

pub listed : (items : Items) (i : List ℕ) → IsTrue (set.contains items i) → Contains (set.items items) i
listed items i h = elim (get items i) as (λ found. get items i ≡ found → is_some found ≡ true → Contains (set.items items) i) [
  | None ↦ λ _ some. absurd (false≢true some)
  | Some u ↦ λ is _. contains-map (λ (e : List ℕ × Unit {0}). e.0) (entries items) (i, u) (entry_there item_total item_exact items i u is)
] refl h

pub in_set : (items : Items) (i : List ℕ) → Contains (set.items items) i → IsTrue (set.contains items i)
in_set items i at =
    let (e, among, same) = contains-from_map (λ (e : List ℕ × Unit {0}). e.0) (entries items) i at in
    subst (λ j. IsTrue (set.contains items j)) same (ap is_some (entry_found item_total items e.0 e.1 among))

record IsRowIn (es : List (Recall × Items)) (row : QuarantineRow) : Type 0 where
  recall : Recall
  items : Items
  item : List ℕ
  entry : Contains es (recall, items)
  there : Contains (set.items items) item
  at : quarantine_row recall item ≡ row

row_in : (es : List (Recall × Items)) (row : QuarantineRow) → Contains (flat_map quarantine_rows es) row → IsRowIn es row
row_in [] row at = absurd (contains_none row at)
row_in (e ∷ es) row at = elim (Contains-append_cases (quarantine_rows e) (flat_map quarantine_rows es) row at) [
  | inl here ↦
      let (i, among, same) = contains-from_map (quarantine_row e.0) (set.items e.1) row here in
      record { recall = e.0; items = e.1; item = i; entry = contains_here e es; there = among; at = same }
  | inr later ↦
      let is = row_in es row later in
      record { recall = is.recall; items = is.items; item = is.item; entry = contains_there e (is.recall, is.items) es is.entry; there = is.there; at = is.at }
]

held_of_row : (q : Quarantine) (r : Recall) (i : List ℕ) → Contains (flat_map quarantine_rows (entries q)) (quarantine_row r i) → IsTrue (held q r i)
held_of_row q r i at =
    let is = row_in (entries q) (quarantine_row r i) at in
    let recall = same_recall_of is.recall r (ap (λ (x : QuarantineRow). x.recall_site) is.at) (ap (λ (x : QuarantineRow). x.recall_no) is.at) in
    let item : is.item ≡ i = ap (λ (x : QuarantineRow). x.item) is.at in
    let found : get q r ≡ Some is.items = ap (get q) (sym recall) ∙ entry_found recall_total q is.recall is.items is.entry in
    ap (λ (o : Option Items). set.contains (or_none o) i) found ∙ subst (λ j. IsTrue (set.contains is.items j)) item (in_set is.items is.item is.there)

-- a row is that of an item that is held
pub held_in_rows : (q : Quarantine) (row : QuarantineRow) → Contains (flat_map quarantine_rows (entries q)) row
    → (r : Recall) × (i : List ℕ) × IsTrue (held q r i) × (row ≡ quarantine_row r i)
held_in_rows q row at =
    let is = row_in (entries q) row at in
    let there = subst (Contains (flat_map quarantine_rows (entries q))) (sym is.at) at in
    (is.recall, is.item, held_of_row q is.recall is.item there, sym is.at)

pub row_of_held : (q : Quarantine) (r : Recall) (i : List ℕ) → IsTrue (held q r i) → Contains (flat_map quarantine_rows (entries q)) (quarantine_row r i)
row_of_held q r i h = elim (get q r) as (λ o. get q r ≡ o → Contains (flat_map quarantine_rows (entries q)) (quarantine_row r i)) [
  | None ↦ λ none. absurd (false≢true (sym (none_held q r i none) ∙ h))
  | Some items ↦ λ is.
      let there : IsTrue (set.contains items i) = sym (ap (λ (o : Option Items). set.contains (or_none o) i) is) ∙ h in
      contains-flat_map quarantine_rows (entries q) (r, items) (quarantine_row r i) (entry_there recall_total recall_exact q r items is)
      (contains-map (quarantine_row r) (set.items items) i (listed items i there))
] refl

pub same_quarantine : (p q : Quarantine) → HasNoEmptySet p → HasNoEmptySet q → flat_map quarantine_rows (entries p) ≡ flat_map quarantine_rows (entries q) → p ≡ q
same_quarantine p q hp hq e = held_is_all p q hp hq (λ r i. (
  λ h. held_of_row q r i (subst (λ rows. Contains rows (quarantine_row r i)) e (row_of_held p r i h)),
  λ h. held_of_row p r i (subst (λ rows. Contains rows (quarantine_row r i)) (sym e) (row_of_held q r i h)),
))
