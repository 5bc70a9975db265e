-- Shipments as they are gathered and put in order.
use Rattle.std.proofs.Common.{◌≡◌, ◌⊎◌, ◌↔◌, inl, inr, ℕ, ◌+◌, ◌<◌, ◌≤◌, true, List, [], ◌∷◌, map, take, get_or, length, refl, sym, ap, subst, ◌∙◌, ⊎_elim}
use Rattle.std.specs.Prelude.{IsTrue}
use Rattle.std.specs.BTreeSet.{BTreeSet, Updates}
use Rattle.std.specs.Cmp.{IsTotalOrder}
use Rattle.std.specs.Cmp.Lexicographic.{slice_cmp}
use Rattle.std.specs.List.{Contains}
use Rattle.std.specs.List.Sorted.{IsStrictlySortedBy}
use Rattle.std.specs.Ordering.{nat_cmp}
use Rattle.std.proofs.lemmas.Cmp.{then_total, on_total, nat_cmp_total, nat_list_cmp_total}
use Rattle.std.proofs.lemmas.List.{take_all}
use Rattle.std.proofs.lemmas.Map.Lookups.{CmpEqualImpliesEq, exact_pairs, exact_unsigned, exact_bytes}
use Rattle.std.proofs.lemmas.Map.Views.{btree_set_contains_iff}
use Rattle.trace_core.specs.declared.pairs.Pair.{Pair}
use Rattle.trace_core.specs.Pairs.{IsShipped}
use Rattle.trace_core.specs.Sites.{SiteEvents}
use Rattle.trace_core.proofs.Members.{contains_here, contains_there, contains_cases, contains_none, contains-map}
use Rattle.trace_core.proofs.SetMembers.{found-insert, contains_more, contains-from_map}
use Rattle.site_core.specs.declared.shipping.Shipment.{Shipment}
use Rattle.site_core.specs.Shipments.{AreShipments, shipment_cmp}
use Rattle.site_core.specs.Shipping.{kept_cmp, is_in}
use Rattle.site_core.proofs.Ascending.{map_ascends}

kept_exact : CmpEqualImpliesEq kept_cmp
kept_exact a b h = ap (λ (p : List ℕ × ℕ). record { item = p.0; site = p.1 }) (exact_pairs (slice_cmp nat_cmp) nat_cmp exact_bytes exact_unsigned (a.item, a.site) (b.item, b.site) h)

kept_total : IsTotalOrder kept_cmp
kept_total = then_total (on_total (λ (p : Shipment). p.item) nat_list_cmp_total) (on_total (λ (p : Shipment). p.site) nat_cmp_total)

abbrev pair_of : ℕ → List ℕ → Pair
pair_of t i = record { site = t; item = i }

-- what was there, and these pairs
abbrev pub WithPairs : BTreeSet Shipment → List Pair → ℕ → List ℕ → Type 0
WithPairs found pairs t i = IsTrue (is_in found t i) ⊎ Contains pairs (record { site = t; item = i })

-- a pair is added
pair_added : (p : Pair) (old new : BTreeSet Shipment) → Updates kept_cmp old new (record { item = p.item; site = p.site }) true
    → (t : ℕ) (i : List ℕ) → IsTrue (is_in new t i) ↔ (IsTrue (is_in old t i) ⊎ (p ≡ record { site = t; item = i }))
pair_added p old new upd t i =
    let both = found-insert kept_cmp kept_total kept_exact old new (record { item = p.item; site = p.site }) upd (record { item = i; site = t }) in (
      λ found. ⊎_elim
          (λ before. inl before)
          (λ same. inr (ap (λ (x : Shipment). record { site = x.site; item = x.item }) same))
          (both.0 found),
      λ h. ⊎_elim
          (λ before. both.1 (inl before))
          (λ same. both.1 (inr (ap (λ (x : Pair). record { item = x.item; site = x.site }) same)))
          h,
    )

module _ (pairs rest : List Pair) (p : Pair) (next : pairs ≡ p ∷ rest) where
  first_or_later : (t : ℕ) (i : List ℕ) → Contains pairs (pair_of t i) → (p ≡ pair_of t i) ⊎ Contains rest (pair_of t i)
  first_or_later t i there = contains_cases p (pair_of t i) rest (subst (λ ps. Contains ps (pair_of t i)) next there)

  later : (t : ℕ) (i : List ℕ) → Contains rest (pair_of t i) → Contains pairs (pair_of t i)
  later t i there = subst (λ ps. Contains ps (pair_of t i)) (sym next) (contains_there p (pair_of t i) rest there)

  is_first : (t : ℕ) (i : List ℕ) → p ≡ pair_of t i → Contains pairs (pair_of t i)
  is_first t i same = subst (λ x. Contains pairs x) same (subst (λ ps. Contains ps p) (sym next) (contains_here p rest))

  -- the next pair is added
  pub next_added : (old new : BTreeSet Shipment) → Updates kept_cmp old new (record { item = p.item; site = p.site }) true → (t : ℕ) (i : List ℕ) → WithPairs new rest t i ↔ WithPairs old pairs t i
  next_added old new upd t i =
      let adds = pair_added p old new upd t i in (
        λ h. ⊎_elim
            (λ found. ⊎_elim
            (λ before. inl before)
            (λ same. inr (is_first t i same))
            (adds.0 found))
            (λ there. inr (later t i there))
            h,
        λ h. ⊎_elim
            (λ before. inl (adds.1 (inl before)))
            (λ there. ⊎_elim
            (λ same. inl (adds.1 (inr same)))
            (λ last. inr last)
            (first_or_later t i there))
            h,
      )

-- after all pairs that an item was shipped to, its shipments are there
pub shipments_added : (s : SiteEvents) (item : List ℕ) (old new : BTreeSet Shipment) (pairs rest : List Pair) → rest ≡ [] → ((p : Pair) → Contains pairs p ↔ IsShipped s item p)
    → ((t : ℕ) (i : List ℕ) → WithPairs new rest t i ↔ WithPairs old pairs t i)
    → (t : ℕ) (i : List ℕ) → IsTrue (is_in new t i) ↔ (IsTrue (is_in old t i) ⊎ ((item ≡ i) × IsShipped s i (record { site = t; item = i })))
shipments_added s item old new pairs rest none exact all t i = (
  λ h. ⊎_elim
      (λ before. inl before)
      (λ there.
      let shipped = (exact (pair_of t i)).0 there in
      let same : item ≡ i = sym shipped.1 in
      inr (same, subst (λ (j : List ℕ). IsShipped s j (pair_of t i)) same shipped))
      ((all t i).0 (inl h)),
  λ h. ⊎_elim
      (λ found. found)
      (λ there. absurd (contains_none (pair_of t i) (subst (λ ps. Contains ps (pair_of t i)) none there)))
      ((all t i).1 (⊎_elim
      (λ before. inl before)
      (λ (same, shipped). inr ((exact (pair_of t i)).1 (subst (λ (j : List ℕ). IsShipped s j (pair_of t i)) (sym same) shipped)))
      h)),
)

-- the shipments of the items so far
abbrev pub HasShipments : SiteEvents → List (List ℕ) → BTreeSet Shipment → Type 0
HasShipments s items found = (t : ℕ) (i : List ℕ) → IsTrue (is_in found t i) ↔ (Contains items i × IsShipped s i (record { site = t; item = i }))

pub item_added : (s : SiteEvents) (items : List (List ℕ)) (k : ℕ) (item : List ℕ) (old new : BTreeSet Shipment) → k < length items → item ≡ get_or items k item
    → ((t : ℕ) (i : List ℕ) → IsTrue (is_in new t i) ↔ (IsTrue (is_in old t i) ⊎ ((item ≡ i) × IsShipped s i (record { site = t; item = i }))))
    → HasShipments s (take k items) old → HasShipments s (take (k + 1) items) new
item_added s items k item old new below at adds so_far t i =
    let more = contains_more items k item below at i in (
      λ h. ⊎_elim
          (λ before. let (there, shipped) = (so_far t i).0 before in (more.1 (inl there), shipped))
          (λ (same, shipped). (more.1 (inr same), shipped))
          ((adds t i).0 h),
      λ (there, shipped). (adds t i).1 (⊎_elim (λ before. inl ((so_far t i).1 (before, shipped))) (λ same. inr (same, shipped)) (more.0 there)),
    )

abbrev pub told : Shipment → ℕ × List ℕ
told x = (x.site, x.item)

-- shipments in their order are those of the set
pub in_their_order : (keys : List Shipment) → IsStrictlySortedBy kept_cmp keys → IsStrictlySortedBy shipment_cmp (map told keys)
in_their_order keys up = map_ascends told kept_cmp shipment_cmp (λ a b. refl) keys up

pub all_shipped : (s : SiteEvents) (items : List (List ℕ)) (k : ℕ) (found : BTreeSet Shipment) (out : List (ℕ × List ℕ)) → length items ≤ k → HasShipments s (take k items) found
    → IsStrictlySortedBy shipment_cmp out → out ≡ map told found.keys → AreShipments s items out
all_shipped s items k found out past all up is = record {
  ascending = up;
  exact = λ t i.
      let kept = btree_set_contains_iff kept_total kept_exact found (record { item = i; site = t }) in
      let whole : take k items ≡ items = take_all k items past in (
        λ h. let (x, there, same) = contains-from_map told found.keys (t, i) (subst (λ xs. Contains xs (t, i)) is h) in
            let one : x ≡ record { item = i; site = t } = ap (λ (p : ℕ × List ℕ). record { item = p.1; site = p.0 }) same in
            let (known, shipped) = (all t i).0 (kept.1 (subst (λ y. Contains found.keys y) one there)) in
            (subst (λ is. Contains is i) whole known, shipped),
        λ (known, shipped). subst (λ xs. Contains xs (t, i)) (sym is) (contains-map told found.keys (record { item = i; site = t }) (kept.0 ((all t i).1 (subst (λ is. Contains is i) (sym whole) known, shipped)))),
      );
}

-- the shipments in the order of the set, as they are listed
pub shipped_told : (s : SiteEvents) (items : List (List ℕ)) (k : ℕ) (found : BTreeSet Shipment) (kept : List Shipment) (out : List (ℕ × List ℕ)) → length items ≤ k → HasShipments s (take k items) found
    → kept ≡ found.keys → IsStrictlySortedBy kept_cmp kept → out ≡ map told kept → AreShipments s items out
shipped_told s items k found kept out past all keys up is =
    all_shipped s items k found out past all (subst (IsStrictlySortedBy shipment_cmp) (sym is) (in_their_order kept up)) (is ∙ ap (map told) keys)
