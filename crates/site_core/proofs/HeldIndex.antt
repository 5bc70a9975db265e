-- What an index of a quarantine has after a change, and what is held then.
use Rattle.std.proofs.Common.{◌≡◌, ◌≢◌, inl, inr, ℕ, Bool, true, false, not, length, ◌↔◌, List, [], ◌∷◌, ◌++◌, Option, Some, None, refl, sym, ap, subst, ◌∙◌, arith}
use mathlib.Core.Bool.{false≢true}
use Rattle.std.specs.Prelude.{◌==◌, if◌then◌else◌, IsTrue, is_some}
use Rattle.std.specs.BTreeMap.{UpdatesBy, is_at}
use Rattle.std.specs.BTreeMap as tree
use Rattle.std.specs.BTreeSet.{BTreeSet, Updates, contains, insert_key}
use Rattle.std.specs.Cmp.{IsTotalOrder}
use Rattle.std.specs.FinMap.{IsAntisymmetric, insert, remove, empty, get-empty, empty_of_len}
use Rattle.std.specs.List.{Contains, list_any}
use Rattle.std.specs.List.Sorted.{IsStrictlySortedBy}
use Rattle.std.specs.Map.{lookup}
use Rattle.std.specs.Ordering.{is_eq, ordering_reverse}
use Rattle.std.specs.declared.cmp.Ordering.{Ordering}
use Rattle.std.specs.declared.cmp.Ordering.TheVariants.{Less, Equal, Greater}
use Rattle.std.proofs.lemmas.List.{nil_from_length}
use Rattle.std.proofs.lemmas.Map.Views.{btree_set_contains_iff}
use Rattle.frame_core.specs.Identifiers.{recall_cmp}
use Rattle.frame_core.specs.Numbers.{Recall}
use Rattle.frame_core.specs.Orders.{recall_total, recall_exact}
use Rattle.frame_core.proofs.Ascending.{looked_up}
use Rattle.frame_core.proofs.Lookups.{one_key, get_gone, get_left}
use Rattle.trace_core.proofs.Members.{contains_here, contains_there, contains_none}
use Rattle.site_core.specs.HeldIndex.{Index, has, notes, Sets, IsIndex}
use Rattle.site_core.specs.Holding.{with_set, without_item}
use Rattle.site_core.specs.ItemSets as set
use Rattle.site_core.specs.ItemSets.{Items, item_cmp}
use Rattle.site_core.specs.Quarantines.{Quarantine, items_under, or_none, held, with_item}
use Rattle.site_core.proofs.Ascending.{head_below, tail_ascends}
use Rattle.site_core.proofs.Entries.{found_there}
use Rattle.site_core.proofs.Held.{no_length, none_held, under_here, under_apart}
use Rattle.site_core.proofs.HeldLaws.{among_here, among_apart}
use Rattle.site_core.proofs.ItemOrder.{item_total, item_exact}

-- a query doesn't find another key
other_key : {K : Type 0} {R : K → K → Ordering} → IsAntisymmetric R → (k q : K) → q ≢ k → is_eq (R k q) ≡ false
other_key {R = R} exact k q ne = elim (R k q) as (λ r. R k q ≡ r → is_eq r ≡ false) [
  | Less ↦ λ e. refl
  | Equal ↦ λ e. absurd (ne (sym (exact k q e)))
  | Greater ↦ λ e. refl
] refl

-- two that agree, changed alike, agree
pub agree_after : (f g f' g' : List ℕ → Recall → Bool) (i : List ℕ) (r : Recall) (b : Bool) → ((j : List ℕ) (s : Recall) → f j s ≡ g j s) → Sets f f' i r b → Sets g g' i r b
    → (j : List ℕ) (s : Recall) → f' j s ≡ g' j s
agree_after f g f' g' i r b agree left right j s = elim (one_key item_total item_exact j i) [
  | inr ne ↦ left.1 j s (λ same. ne same.0) ∙ agree j s ∙ sym (right.1 j s (λ same. ne same.0))
  | inl here ↦ elim (one_key recall_total recall_exact s r) [
    | inr ne ↦ left.1 j s (λ same. ne same.1) ∙ agree j s ∙ sym (right.1 j s (λ same. ne same.1))
    | inl one ↦ subst (λ k. f' k s ≡ g' k s) (sym here) (subst (λ t. f' i t ≡ g' i t) (sym one) (left.0 ∙ sym right.0))
  ]
]

-- noted, and forgotten again
pub set_back : (f g h : List ℕ → Recall → Bool) (i : List ℕ) (r : Recall) (b : Bool) → Sets f g i r b → Sets g h i r false → f i r ≡ false → (j : List ℕ) (s : Recall) → h j s ≡ f j s
set_back f g h i r b first second was j s = elim (one_key item_total item_exact j i) [
  | inr ne ↦ second.1 j s (λ same. ne same.0) ∙ first.1 j s (λ same. ne same.0)
  | inl here ↦ elim (one_key recall_total recall_exact s r) [
    | inr ne ↦ second.1 j s (λ same. ne same.1) ∙ first.1 j s (λ same. ne same.1)
    | inl one ↦ subst (λ k. h k s ≡ f k s) (sym here) (subst (λ t. h i t ≡ f i t) (sym one) (second.0 ∙ sym was))
  ]
]

module _ (m n : Index) (i : List ℕ) (w : Option (BTreeSet Recall)) (upd : UpdatesBy item_cmp (item_cmp i) m n w) where
  elsewhere : (j : List ℕ) (s : Recall) → j ≢ i → notes n j s ≡ notes m j s
  elsewhere j s ne = ap (λ o. has o s) (upd.2 j (other_key item_exact i j ne))

  here : (s : Recall) → notes n i s ≡ has w s
  here s = ap (λ o. has o s) upd.1

  -- the recalls of an item, one of them changed
  pub set_at : (o : Option (BTreeSet Recall)) (r : Recall) (b : Bool) → tree.get item_cmp m i ≡ o → has w r ≡ b → ((s : Recall) → s ≢ r → has w s ≡ has o s) → Sets (notes m) (notes n) i r b
  set_at o r b is one others = (
    here r ∙ one,
    λ j s apart. elim (one_key item_total item_exact j i) [
      | inr ne ↦ elsewhere j s ne
      | inl same ↦
          let other : s ≢ r = λ e. apart (same, e) in
          subst (λ k. notes n k s ≡ notes m k s) (sym same) (here s ∙ others s other ∙ ap (λ found. has found s) (sym is))
    ],
  )

  -- none of them changed
  pub same_at : (o : Option (BTreeSet Recall)) → tree.get item_cmp m i ≡ o → ((s : Recall) → has w s ≡ has o s) → (j : List ℕ) (s : Recall) → notes n j s ≡ notes m j s
  same_at o is same j s = elim (one_key item_total item_exact j i) [
    | inr ne ↦ elsewhere j s ne
    | inl one ↦ subst (λ k. notes n k s ≡ notes m k s) (sym one) (here s ∙ same s ∙ ap (λ found. has found s) (sym is))
  ]

  -- an item goes that has no recall left
  pub emptied_at : (f : List ℕ → Recall → Bool) (r : Recall) → w ≡ None → Sets f (notes m) i r false → ((s : Recall) → notes m i s ≡ false) → Sets f (notes n) i r false
  emptied_at f r none so_far left = (
    here r ∙ ap (λ o. has o r) none,
    λ j s apart. elim (one_key item_total item_exact j i) [
      | inr ne ↦ elsewhere j s ne ∙ so_far.1 j s apart
      | inl one ↦ subst (λ k. notes n k s ≡ notes m k s) (sym one) (here s ∙ ap (λ o. has o s) none ∙ sym (left s)) ∙ so_far.1 j s apart
    ],
  )

-- another recall is there if it was
pub others_stay : (old new : BTreeSet Recall) (r : Recall) (b : Bool) → Updates recall_cmp old new r b → (s : Recall) → s ≢ r → contains recall_cmp new s ≡ contains recall_cmp old s
others_stay old new r b upd s ne = upd.2 s (other_key recall_exact r s ne)

-- an item that is new in the index, with its first recall
pub noted_new : (old mid new : Index) (i k : List ℕ) (r : Recall) (none first : BTreeSet Recall) → mid ≡ old → k ≡ i → tree.get item_cmp old i ≡ None → UpdatesBy item_cmp (item_cmp k) mid new (Some first)
    → none.keys ≡ [] → Updates recall_cmp none first r true → Sets (notes old) (notes new) i r true
noted_new old mid new i k r none first same copied absent upd nothing plus =
    let at : UpdatesBy item_cmp (item_cmp i) old new (Some first) = subst (λ (x : List ℕ). UpdatesBy item_cmp (item_cmp x) old new (Some first)) copied (subst (λ (x : Index). UpdatesBy item_cmp (item_cmp k) x new (Some first)) same upd) in
    set_at old new i (Some first) at None r true absent plus.1 (λ s ne. others_stay none first r true plus s ne ∙ ap (list_any (is_at (recall_cmp s))) nothing)

-- what has no entry doesn't change
pub not_there : (m : Index) (i : List ℕ) (r : Recall) → tree.get item_cmp m i ≡ None → Sets (notes m) (notes m) i r false
not_there m i r none = (ap (λ o. has o r) none, λ j s apart. refl)

-- What is held, with one more item and with one less.
among_gone : (items : Items) (i : List ℕ) → set.contains (set.remove items i) i ≡ false
among_gone items i = ap is_some (get_gone item_total item_exact items i)

among_left : (items : Items) (i j : List ℕ) → j ≢ i → set.contains (set.remove items i) j ≡ set.contains items j
among_left items i j ne = ap is_some (get_left item_total item_exact items i j ne)

-- as the index sees it
abbrev pub holds : Quarantine → List ℕ → Recall → Bool
holds q i r = held q r i

module _ (q p : Quarantine) (r : Recall) (items : Items) (i : List ℕ) (b : Bool)
    (set_there : items_under p r ≡ items) (others : (s : Recall) → s ≢ r → items_under p s ≡ items_under q s)
    (one : set.contains items i ≡ b) (rest : (j : List ℕ) → j ≢ i → set.contains items j ≡ set.contains (items_under q r) j) where
  holds_set : Sets (holds q) (holds p) i r b
  holds_set = (
    ap (λ under. set.contains under i) set_there ∙ one,
    λ j s apart. elim (one_key recall_total recall_exact s r) [
      | inr ne ↦ ap (λ under. set.contains under j) (others s ne)
      | inl same ↦
          let other : j ≢ i = λ e. apart (e, same) in
          subst (λ t. held p t j ≡ held q t j) (sym same) (ap (λ under. set.contains under j) set_there ∙ rest j other)
    ],
  )

pub held_with : (q : Quarantine) (r : Recall) (i : List ℕ) → Sets (holds q) (holds (with_item q r i)) i r true
held_with q r i = holds_set q (with_item q r i) r (set.insert (items_under q r) i) i true (under_here q r _) (under_apart q r _) (among_here (items_under q r) i) (among_apart (items_under q r) i)

-- the items that are set under a recall, whether it is kept or not
under_set : (q : Quarantine) (r : Recall) (items : Items) → items_under (with_set q r items) r ≡ items
under_set q r items = elim (set.len items == 0) as (λ b. (set.len items == 0) ≡ b → items_under (if b then remove q r else insert q r items) r ≡ items) [
  | true ↦ λ none. ap or_none (get_gone recall_total recall_exact q r) ∙ sym (empty_of_len items (no_length (set.len items) none))
  | false ↦ λ some. under_here q r items
] refl

under_other : (q : Quarantine) (r : Recall) (items : Items) (s : Recall) → s ≢ r → items_under (with_set q r items) s ≡ items_under q s
under_other q r items s ne = elim (set.len items == 0) as (λ b. items_under (if b then remove q r else insert q r items) s ≡ items_under q s) [
  | true ↦ ap or_none (get_left recall_total recall_exact q r s ne)
  | false ↦ under_apart q r items s ne
]

pub held_without : (q : Quarantine) (r : Recall) (i : List ℕ) → Sets (holds q) (holds (without_item q r i)) i r false
held_without q r i =
    let items = set.remove (items_under q r) i in
    holds_set q (without_item q r i) r items i false (under_set q r items) (under_other q r items) (among_gone (items_under q r) i) (among_left (items_under q r) i)

-- the index of the quarantine after such a change
pub index_with : (m n : Index) (q : Quarantine) (r : Recall) (i : List ℕ) → IsIndex m q → Sets (notes m) (notes n) i r true → IsIndex n (with_item q r i)
index_with m n q r i is change = agree_after (notes m) (holds q) (notes n) (holds (with_item q r i)) i r true is change (held_with q r i)

pub index_without : (m n : Index) (q : Quarantine) (r : Recall) (i : List ℕ) → IsIndex m q → Sets (notes m) (notes n) i r false → IsIndex n (without_item q r i)
index_without m n q r i is change = agree_after (notes m) (holds q) (notes n) (holds (without_item q r i)) i r false is change (held_without q r i)

pub index_back : (m n k : Index) (q : Quarantine) (r : Recall) (i : List ℕ) → IsIndex m q → Sets (notes m) (notes n) i r true → Sets (notes n) (notes k) i r false → held q r i ≡ false → IsIndex k q
index_back m n k q r i is noted forgotten new j s = set_back (notes m) (notes n) (notes k) i r true noted forgotten (is i r ∙ new) j s ∙ is j s

-- of nothing
pub index_of_nothing : (m : Index) → m.entries ≡ [] → IsIndex m empty
index_of_nothing m none i r = ap (λ es. has (lookup (is_at (item_cmp i)) es) r) none ∙ sym (none_held empty r i (get-empty recall_cmp r))

-- a quarantined item has an entry
pub held_entry : (m : Index) (q : Quarantine) → IsIndex m q → (i : List ℕ) (r : Recall) → IsTrue (held q r i) → (recalls : BTreeSet Recall) × Contains m.entries (i, recalls)
held_entry m q is i r h = elim (lookup (is_at (item_cmp i)) m.entries) as (λ o. lookup (is_at (item_cmp i)) m.entries ≡ o → has o r ≡ true → (recalls : BTreeSet Recall) × Contains m.entries (i, recalls)) [
  | None ↦ λ _ no. absurd (false≢true no)
  | Some recalls ↦ λ found _. (recalls, found_there item_total item_exact m.entries i recalls (sym (looked_up item_cmp i m.entries) ∙ found))
] refl (is i r ∙ h)

-- equal entries make an equal index
pub same_entries : (m n : Index) → n.entries ≡ m.entries → (i : List ℕ) (r : Recall) → notes n i r ≡ notes m i r
same_entries m n is i r = ap (λ es. has (lookup (is_at (item_cmp i)) es) r) is

-- the next of ascending keys comes behind those before it
pub insert_last : {K : Type 0} (cmp : K → K → Ordering) → IsTotalOrder cmp → (ks rest : List K) (k : K) → IsStrictlySortedBy cmp (ks ++ k ∷ rest) → insert_key cmp ks k ≡ ks ++ k ∷ []
insert_last cmp total [] rest k up = refl
insert_last cmp total (x ∷ ks) rest k up =
    let below : cmp x k ≡ Less = head_below cmp x (ks ++ k ∷ rest) up k (behind ks) in
    let above : cmp k x ≡ Greater = total.antisymm k x ∙ ap ordering_reverse below in
    rw above (ap (λ ys. x ∷ ys) (insert_last cmp total ks rest k (tail_ascends cmp x (ks ++ k ∷ rest) up)))
  where
    behind : (ys : List _) → Contains (ys ++ k ∷ rest) k
    behind [] = contains_here k rest
    behind (y ∷ ys) = contains_there y k (ys ++ k ∷ rest) (behind ys)

-- What the recalls of an item say of it.
pub nothing_ascends : (rs : List Recall) → rs ≡ [] → IsStrictlySortedBy recall_cmp rs
unfolding IsStrictlySortedBy
nothing_ascends rs none = subst (IsStrictlySortedBy recall_cmp) (sym none) tt

pub holders_found : (q : Quarantine) (i : List ℕ) (found : BTreeSet Recall) (out : List Recall) → out ≡ found.keys → ((r : Recall) → has (Some found) r ≡ held q r i) → (r : Recall) → Contains out r ↔ IsTrue (held q r i)
holders_found q i found out keys exact r =
    let both = btree_set_contains_iff recall_total recall_exact found r in
    (λ h. sym (exact r) ∙ both.1 (subst (λ rs. Contains rs r) keys h), λ h. subst (λ rs. Contains rs r) (sym keys) (both.0 (exact r ∙ h)))

pub holders_none : (q : Quarantine) (i : List ℕ) (out : List Recall) → out ≡ [] → ((r : Recall) → held q r i ≡ false) → (r : Recall) → Contains out r ↔ IsTrue (held q r i)
holders_none q i out none free r = (λ h. absurd (contains_none r (subst (λ rs. Contains rs r) none h)), λ h. absurd (false≢true (sym (free r) ∙ h)))

first_of : (rs : List Recall) → (length rs ≡ 0 → ⊥) → (r : Recall) × Contains rs r
first_of [] some = absurd (some refl)
first_of (r ∷ rs) some = (r, contains_here r rs)

not_both : (b : Bool) → b ≡ true → not b ≡ true → ⊥
not_both true e f = false≢true f
not_both false e f = false≢true e

refuted : (b : Bool) → (b ≡ true → ⊥) → not b ≡ true
refuted true fails = absurd (fails refl)
refuted false fails = refl

-- an item is held where it has a recall
pub held_by_some : (q : Quarantine) (i : List ℕ) (found : BTreeSet Recall) (none : Bool) → (IsTrue none ↔ (length found.keys ≡ 0)) → ((r : Recall) → has (Some found) r ≡ held q r i) → IsTrue (not none) ↔ ((r : Recall) × IsTrue (held q r i))
held_by_some q i found none counts exact = (
  λ some. let (r, there) = first_of found.keys (λ empty. not_both none (counts.1 empty) some) in (r, (holders_found q i found found.keys refl exact r).0 there),
  λ (r, h). refuted none (λ no. contains_none r (subst (λ rs. Contains rs r) (nil_from_length found.keys (omega (arith, counts.0 no))) ((holders_found q i found found.keys refl exact r).1 h))),
)
