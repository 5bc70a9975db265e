-- The list of what is quarantined under a recall: it ascends, and has the pairs that are held.
use Rattle.std.proofs.Common.{◌≡◌, ◌↔◌, inl, inr, ℕ, zero, suc, ◌<◌, Some, List, [], ◌∷◌, ◌++◌, length, map, refl, sym, ◌∙◌, ap, subst, arith, slice_get, Contains}
use mathlib.Core.Bool.{false≢true}
use Rattle.std.specs.Prelude.{T, IsTrue}
use Rattle.std.specs.Cmp.Lexicographic.{slice_cmp}
use Rattle.std.specs.FinMap.{entries, entries_sorted, contains_key-keys, get-empty, is_sorted}
use Rattle.std.specs.FinMap.Entries.{below_all}
use Rattle.std.specs.List.{AllByRecursion}
use Rattle.std.specs.List.Sorted.{IsStrictlySortedBy}
use Rattle.std.specs.Ordering.{eq_by_cmp, is_eq, is_lt, nat_cmp, ordering_then}
use Rattle.std.specs.declared.cmp.Ordering.{Ordering}
use Rattle.std.specs.declared.cmp.Ordering.TheVariants.{Less, Equal, Greater}
use Rattle.std.proofs.lemmas.Cmp.{nat_cmp_total, tied_itself}
use Rattle.std.proofs.lemmas.List.{get_or_past}
use Rattle.std.proofs.lemmas.List.Elements.{Contains-append_cases}
use Rattle.std.proofs.lemmas.Map.Lookups.{exact_bytes}
use Rattle.std.proofs.lemmas.Map.Views.{tells_apart}
use Rattle.std.proofs.lemmas.Option.{slice_get-get_or, slice_get_within, get_or_from_slice_get}
use Rattle.frame_core.specs.Identifiers.{recall_cmp}
use Rattle.frame_core.specs.Numbers.{Recall}
use Rattle.frame_core.proofs.Ascending.{first, second}
use Rattle.site_core.specs.ItemSets as set
use Rattle.site_core.specs.ItemSets.{Items, item_cmp}
use Rattle.site_core.specs.Quarantines.{held, items_under}
use Rattle.site_core.specs.Records.{Record, fresh}
use Rattle.site_core.proofs.Ascending.{map_ascends}
use Rattle.site_core.proofs.Held.{none_held}
use Rattle.site_core.proofs.ItemOrder.{item_total}
use Rattle.site_recovery.specs.Laws.{AreInPlace}
use Rattle.site_recovery.specs.Looks.{world_of, Held}
use Rattle.site_recovery.proofs.Exact.{within_or_past}
use Rattle.trace_core.specs.Pairs.{pair_cmp, IsStrictlyAscending}
use Rattle.trace_core.specs.declared.pairs.Pair.{Pair}
use Rattle.trace_core.proofs.Members.{contains_here, contains_there, contains_cases, contains_none, contains-map, contains-flat_map, list_any_witness, list_any_member}
use Rattle.site_recovery.specs.Recalls.{held_at, quarantined}

-- Ascending lists.

less : (o : Ordering) → T (is_lt o) → o ≡ Less
less Less p = refl
less Equal p = absurd p
less Greater p = absurd p

module _ {K X : Type 0} (R : K → K → Ordering) where
  keys_above : (x : K) (es : List (K × X)) → T (below_all R x es) → AllByRecursion (λ y. R x y ≡ Less) (map (λ e. e.0) es)
  keys_above x [] h = tt
  keys_above x (e ∷ es) h = (less (R x e.0) (first _ _ h), keys_above x es (second _ _ h))

  -- the keys of a map ascend
  keys_ascend : (es : List (K × X)) → T (is_sorted R es) → IsStrictlySortedBy R (map (λ e. e.0) es)
  unfolding IsStrictlySortedBy
  keys_ascend [] h = tt
  keys_ascend (e ∷ es) h = (keys_above e.0 es (first _ _ h), keys_ascend es (second _ _ h))

all_members : {X : Type 0} (P : X → Type 0) (xs : List X) → ((x : X) → Contains xs x → P x) → AllByRecursion P xs
all_members P [] h = tt
all_members P (x ∷ xs) h = (h x (contains_here x xs), all_members P xs (λ y at. h y (contains_there x y xs at)))

all_append : {X : Type 0} (P : X → Type 0) (xs ys : List X) → AllByRecursion P xs → AllByRecursion P ys → AllByRecursion P (xs ++ ys)
all_append P [] ys h k = k
all_append P (x ∷ xs) ys h k = (h.0, all_append P xs ys h.1 k)

-- one list after another, above it
ascend_append : {X : Type 0} (cmp : X → X → Ordering) (xs ys : List X) → IsStrictlySortedBy cmp xs → IsStrictlySortedBy cmp ys → ((x y : X) → Contains xs x → Contains ys y → cmp x y ≡ Less) → IsStrictlySortedBy cmp (xs ++ ys)
unfolding IsStrictlySortedBy
ascend_append cmp [] ys a b above = b
ascend_append cmp (x ∷ xs) ys a b above = (
  all_append (λ y. cmp x y ≡ Less) xs ys a.0 (all_members (λ y. cmp x y ≡ Less) ys (λ y at. above x y (contains_here x xs) at)),
  ascend_append cmp xs ys a.1 b (λ z y in' at. above z y (contains_there x z xs in') at),
)

-- What one site holds.

member_of_map : {X Y : Type 0} (f : X → Y) (xs : List X) (y : Y) → Contains (map f xs) y → (x : X) × Contains xs x × (f x ≡ y)
member_of_map f [] y at = absurd (contains_none y at)
member_of_map f (x ∷ xs) y at = elim (contains_cases (f x) y (map f xs) at) [
  | inl here ↦ (x, contains_here x xs, here)
  | inr later ↦ let m = member_of_map f xs y later in (m.0, contains_there x m.0 xs m.1, m.2)
]

item_among : (s : Items) (i : List ℕ) → Contains (set.items s) i ↔ IsTrue (set.contains s i)
item_among s i = (
  λ at. contains_key-keys s i ∙ list_any_member (eq_by_cmp item_cmp i) (set.items s) i at (ap is_eq (tied_itself item_total i)),
  λ has.
      let w = list_any_witness (eq_by_cmp item_cmp i) (set.items s) (sym (contains_key-keys s i) ∙ has) in
      subst (Contains (set.items s)) (sym (tells_apart exact_bytes i w.0 w.2)) w.1,
)

module _ (recall : Recall) where
  held_here : (r : Record) (p : Pair) → Contains (held_at recall r) p → (p.site ≡ r.engagement.me) × IsTrue (held r.quarantine recall p.item)
  held_here r p at =
      let m = member_of_map _ (set.items (items_under r.quarantine recall)) p at in
      (ap (λ q. q.site) (sym m.2), subst (λ (q : Pair). IsTrue (held r.quarantine recall q.item)) m.2 ((item_among (items_under r.quarantine recall) m.0).0 m.1))

  here_held : (r : Record) (p : Pair) → p.site ≡ r.engagement.me → IsTrue (held r.quarantine recall p.item) → Contains (held_at recall r) p
  here_held r p same has =
      let at : Contains (held_at recall r) (record { site = r.engagement.me; item = p.item }) =
      contains-map _ (set.items (items_under r.quarantine recall)) p.item ((item_among (items_under r.quarantine recall) p.item).1 has) in
      subst (Contains (held_at recall r)) (λ i. record { site = sym same i; item = p.item }) at

  held_ascends : (r : Record) → IsStrictlyAscending (held_at recall r)
  held_ascends r =
      let me = r.engagement.me in
      map_ascends (λ (i : List ℕ). record { site = me; item = i }) item_cmp pair_cmp (λ a b. ap (λ o. ordering_then o (item_cmp a b)) (tied_itself nat_cmp_total me))
      (set.items (items_under r.quarantine recall)) (keys_ascend item_cmp (entries (items_under r.quarantine recall)) (entries_sorted (items_under r.quarantine recall)))

  -- What all sites hold.

  held_somewhere : (rs : List Record) (p : Pair) → Contains (quarantined recall rs) p → (j : ℕ) × (r : Record) × (slice_get rs j ≡ Some r) × Contains (held_at recall r) p
  held_somewhere [] p at = absurd (contains_none p at)
  held_somewhere (r ∷ rs) p at = elim (Contains-append_cases (held_at recall r) (quarantined recall rs) p at) [
    | inl here ↦ (zero, r, refl, here)
    | inr later ↦ let m = held_somewhere rs p later in (suc m.0, m.1, m.2, m.3)
  ]

  -- the numbers of the sites rise
  abbrev Rise : List Record → Type 0
  Rise rs = (i j : ℕ) (r s : Record) → i < j → slice_get rs i ≡ Some r → slice_get rs j ≡ Some s → r.engagement.me < s.engagement.me

  all_ascend : (rs : List Record) → Rise rs → IsStrictlyAscending (quarantined recall rs)
  unfolding IsStrictlySortedBy
  all_ascend [] rise = tt
  all_ascend (r ∷ rs) rise =
      ascend_append pair_cmp (held_at recall r) (quarantined recall rs) (held_ascends r) (all_ascend rs (λ i j x y below a b. rise (suc i) (suc j) x y (omega (arith, below)) a b))
      (λ x y here later.
      let m = held_somewhere rs y later in
      let low = (held_here r x here).0 in
      let high = (held_here m.1 y m.3).0 in
      let apart : x.site < y.site = subst (λ n. n < y.site) (sym low) (subst (λ n. r.engagement.me < n) (sym high) (rise zero (suc m.0) r m.1 (omega arith) refl m.2)) in
      ap (λ o. ordering_then o (slice_cmp nat_cmp x.item y.item)) (nat_less x.site y.site apart))
    where
      nat_less : (a b : ℕ) → a < b → nat_cmp a b ≡ Less
      nat_less a b below = grind (below, arith)

  module _ (rs : List Record) (places : AreInPlace rs) where
    number_at : (j : ℕ) (r : Record) → slice_get rs j ≡ Some r → r.engagement.me ≡ j
    number_at j r at = ap (λ z. z.engagement.me) (sym (get_or_from_slice_get rs j r (fresh [] j) at)) ∙ (places j (slice_get_within rs j r at)).engagement

    pub pairs_ascend : IsStrictlyAscending (quarantined recall rs)
    pairs_ascend = all_ascend rs (λ i j r s below a b. subst (λ n. n < s.engagement.me) (sym (number_at i r a)) (subst (λ n. i < n) (sym (number_at j s b)) below))

    pub pairs_held : (p : Pair) → Contains (quarantined recall rs) p ↔ Held (world_of rs) p.site recall p.item
    pairs_held p = (
      λ at.
          let m = held_somewhere rs p at in
          let here = held_here m.1 p m.3 in
          let site : m.0 ≡ p.site = sym (here.0 ∙ number_at m.0 m.1 m.2) in
          subst (λ s. Held (world_of rs) s recall p.item) site (subst (λ (z : Record). IsTrue (held z.quarantine recall p.item)) (sym (get_or_from_slice_get rs m.0 m.1 (fresh [] m.0) m.2)) here.1),
      λ has. elim (within_or_past p.site (length rs)) as (λ _. Contains (quarantined recall rs) p) [
        | inl below ↦
            let at = slice_get-get_or rs p.site (fresh [] p.site) below in
            contains-flat_map (held_at recall) rs (world_of rs p.site) p (p.site, below, get_or_from_slice_get rs p.site (world_of rs p.site) _ at)
            (here_held (world_of rs p.site) p (sym (places p.site below).engagement) has)
        | inr past ↦
            let nothing : world_of rs p.site ≡ fresh [] p.site = get_or_past rs p.site (fresh [] p.site) past in
            let none = none_held (fresh [] p.site).quarantine recall p.item (get-empty recall_cmp recall) in
            absurd (false≢true (sym none ∙ subst (λ (z : Record). IsTrue (held z.quarantine recall p.item)) nothing has))
      ],
    )
