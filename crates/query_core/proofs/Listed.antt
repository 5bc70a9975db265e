-- Ascending lists, and those that are made site by site.
use Rattle.std.proofs.Common.{◌≡◌, ◌↔◌, inl, inr, ℕ, zero, suc, ◌<◌, Bool, true, false, cond, List, [], ◌∷◌, ◌++◌, length, Some, refl, sym, ap, ◌∙◌, subst, arith, slice_get, Contains}
use Rattle.std.specs.Cmp.{IsTotalOrder}
use Rattle.std.specs.FinMap.{FinMap, entries, entries_sorted, is_sorted}
use Rattle.std.specs.FinMap.Entries.{below_all}
use Rattle.std.specs.List.{AllByRecursion, flat_map}
use Rattle.std.specs.List.Sorted.{IsStrictlySortedBy}
use Rattle.std.specs.Ordering.{is_lt, ordering_reverse}
use Rattle.std.specs.Prelude.{T, filter}
use Rattle.std.specs.declared.cmp.Ordering.{Ordering}
use Rattle.std.specs.declared.cmp.Ordering.TheVariants.{Less, Equal, Greater}
use Rattle.std.proofs.lemmas.Cmp.{tied_itself}
use Rattle.std.proofs.lemmas.List.{get_or_past}
use Rattle.std.proofs.lemmas.List.Elements.{Contains-append_cases}
use Rattle.std.proofs.lemmas.Option.{slice_get-get_or, slice_get_within, get_or_from_slice_get}
use Rattle.frame_core.proofs.Ascending.{first, second}
use Rattle.trace_core.proofs.Members.{contains_here, contains_there, contains_cases, contains_none, contains-flat_map}
use Rattle.site_core.specs.Records.{Record, fresh}
use Rattle.site_core.proofs.Ascending.{head_below, tail_ascends}
use Rattle.site_recovery.specs.Laws.{AreInPlace}
use Rattle.site_recovery.specs.Looks.{world_of}
use Rattle.site_recovery.proofs.Exact.{within_or_past}
use Rattle.query_core.specs.Lists.{AreAllBy}

-- ---- two lists

module _ {X : Type 0} (cmp : X → X → Ordering) (total : IsTotalOrder cmp) where
  not_below_itself : (x : X) → cmp x x ≡ Less → ⊥
  not_below_itself x below = let tie : cmp x x ≡ Equal = tied_itself total x in cc

  not_both_below : (x y : X) → cmp x y ≡ Less → cmp y x ≡ Less → ⊥
  not_both_below x y low high = let above : cmp y x ≡ Greater = total.antisymm y x ∙ ap ordering_reverse low in cc

  same_head : (x y : X) (xs ys : List X) → IsStrictlySortedBy cmp (x ∷ xs) → IsStrictlySortedBy cmp (y ∷ ys) → Contains (y ∷ ys) x → Contains (x ∷ xs) y → x ≡ y
  same_head x y xs ys a b in' at = elim (contains_cases y x ys in') as (λ _. x ≡ y) [
    | inl is ↦ sym is
    | inr later ↦ elim (contains_cases x y xs at) as (λ _. x ≡ y) [
      | inl is ↦ is
      | inr after ↦ absurd (not_both_below x y (head_below cmp x xs a y after) (head_below cmp y ys b x later))
    ]
  ]

  in_rest : (x y z : X) (xs ys : List X) → IsStrictlySortedBy cmp (x ∷ xs) → x ≡ y → Contains xs z → Contains (y ∷ ys) z → Contains ys z
  in_rest x y z xs ys a same at among = elim (contains_cases y z ys among) as (λ _. Contains ys z) [
    | inl is ↦ absurd (not_below_itself x (subst (λ w. cmp x w ≡ Less) (sym (same ∙ is)) (head_below cmp x xs a z at)))
    | inr later ↦ later
  ]

  -- ascending lists with the same members are one list
  pub one_list : (xs ys : List X) → IsStrictlySortedBy cmp xs → IsStrictlySortedBy cmp ys → ((x : X) → Contains xs x ↔ Contains ys x) → xs ≡ ys
  one_list [] [] a b same = refl
  one_list [] (y ∷ ys) a b same = absurd (contains_none y ((same y).1 (contains_here y ys)))
  one_list (x ∷ xs) [] a b same = absurd (contains_none x ((same x).0 (contains_here x xs)))
  one_list (x ∷ xs) (y ∷ ys) a b same =
      let head : x ≡ y = same_head x y xs ys a b ((same x).0 (contains_here x xs)) ((same y).1 (contains_here y ys)) in
      let rest : xs ≡ ys = one_list xs ys (tail_ascends cmp x xs a) (tail_ascends cmp y ys b) (λ z. (
        λ at. in_rest x y z xs ys a head at ((same z).0 (contains_there x z xs at)),
        λ at. in_rest y x z ys xs b (sym head) at ((same z).1 (contains_there y z ys at)),
      )) in
      ap (λ w. w ∷ xs) head ∙ ap (λ ws. y ∷ ws) rest

  pub same_all : (Is : X → Type 0) (xs ys : List X) → AreAllBy cmp Is xs → AreAllBy cmp Is ys → xs ≡ ys
  same_all Is xs ys a b = one_list xs ys a.ascending b.ascending (λ x. (λ at. (b.exact x).1 ((a.exact x).0 at), λ at. (a.exact x).1 ((b.exact x).0 at)))

-- ---- one list after another

all_members : {X : Type 0} (P : X → Type 0) (xs : List X) → ((x : X) → Contains xs x → P x) → AllByRecursion P xs
all_members P [] h = tt
all_members P (x ∷ xs) h = (h x (contains_here x xs), all_members P xs (λ y at. h y (contains_there x y xs at)))

all_append : {X : Type 0} (P : X → Type 0) (xs ys : List X) → AllByRecursion P xs → AllByRecursion P ys → AllByRecursion P (xs ++ ys)
all_append P [] ys h k = k
all_append P (x ∷ xs) ys h k = (h.0, all_append P xs ys h.1 k)

ascend_append : {X : Type 0} (cmp : X → X → Ordering) (xs ys : List X) → IsStrictlySortedBy cmp xs → IsStrictlySortedBy cmp ys → ((x y : X) → Contains xs x → Contains ys y → cmp x y ≡ Less) → IsStrictlySortedBy cmp (xs ++ ys)
unfolding IsStrictlySortedBy
ascend_append cmp [] ys a b above = b
ascend_append cmp (x ∷ xs) ys a b above = (
  all_append (λ y. cmp x y ≡ Less) xs ys a.0 (all_members (λ y. cmp x y ≡ Less) ys (λ y at. above x y (contains_here x xs) at)),
  ascend_append cmp xs ys a.1 b (λ z y in' at. above z y (contains_there x z xs in') at),
)

-- a list of at most one
pub one_ascends : {X : Type 0} (cmp : X → X → Ordering) (b : Bool) (x : X) → IsStrictlySortedBy cmp (cond b (x ∷ []) [])
unfolding IsStrictlySortedBy
one_ascends cmp true x = (tt, tt)
one_ascends cmp false x = tt

pub one_member : {X : Type 0} (b : Bool) (y x : X) → Contains (cond b (y ∷ []) []) x → (b ≡ true) × (y ≡ x)
one_member true y x at = elim (contains_cases y x [] at) as (λ _. (true ≡ true) × (y ≡ x)) [
  | inl is ↦ (refl, is)
  | inr later ↦ absurd (contains_none x later)
]
one_member false y x at = absurd (contains_none x at)

pub the_member : {X : Type 0} (b : Bool) (y x : X) → b ≡ true → y ≡ x → Contains (cond b (y ∷ []) []) x
the_member b y x passes is = subst (λ t. Contains (cond t (y ∷ []) []) x) (sym passes) (subst (Contains (y ∷ [])) is (contains_here y []))

pub none_there : {X : Type 0} (xs : List X) → ((x : X) → Contains xs x → ⊥) → xs ≡ []
none_there [] none = refl
none_there (x ∷ xs) none = absurd (none x (contains_here x xs))

-- what a test leaves
pub filtered : {X : Type 0} (t : X → Bool) (xs : List X) (x : X) → Contains (filter t xs) x → Contains xs x × (t x ≡ true)
filtered t [] x at = absurd (contains_none x at)
filtered t (y ∷ ys) x at = elim (t y) as (λ b. t y ≡ b → Contains (cond b (y ∷ filter t ys) (filter t ys)) x → Contains (y ∷ ys) x × (t x ≡ true)) [
  | true ↦ λ passes h. elim (contains_cases y x (filter t ys) h) as (λ _. Contains (y ∷ ys) x × (t x ≡ true)) [
    | inl is ↦ (subst (Contains (y ∷ ys)) is (contains_here y ys), subst (λ z. t z ≡ true) is passes)
    | inr later ↦ let more = filtered t ys x later in (contains_there y x ys more.0, more.1)
  ]
  | false ↦ λ _ h. let more = filtered t ys x h in (contains_there y x ys more.0, more.1)
] refl at

pub filtered_in : {X : Type 0} (t : X → Bool) (xs : List X) (x : X) → Contains xs x → t x ≡ true → Contains (filter t xs) x
filtered_in t [] x at passes = absurd (contains_none x at)
filtered_in t (y ∷ ys) x at passes = elim (t y) as (λ b. t y ≡ b → Contains (cond b (y ∷ filter t ys) (filter t ys)) x) [
  | true ↦ λ _. elim (contains_cases y x ys at) as (λ _. Contains (y ∷ filter t ys) x) [
    | inl is ↦ subst (Contains (y ∷ filter t ys)) is (contains_here y (filter t ys))
    | inr later ↦ contains_there y x (filter t ys) (filtered_in t ys x later passes)
  ]
  | false ↦ λ fails. elim (contains_cases y x ys at) as (λ _. Contains (filter t ys) x) [
    | inl is ↦ let wrong : true ≡ false = sym passes ∙ ap t (sym is) ∙ fails in cc
    | inr later ↦ filtered_in t ys x later passes
  ]
] refl

-- ---- the entries of a map

less : (o : Ordering) → T (is_lt o) → o ≡ Less
less Less p = refl
less Equal p = absurd p
less Greater p = absurd p

module _ {K X : Type 0} (R : K → K → Ordering) where
  entries_above : (x : K × X) (es : List (K × X)) → T (below_all R x.0 es) → AllByRecursion (λ y. R x.0 y.0 ≡ Less) es
  entries_above x [] h = tt
  entries_above x (e ∷ es) h = (less (R x.0 e.0) (first _ _ h), entries_above x es (second _ _ h))

  sorted_ascend : (es : List (K × X)) → T (is_sorted R es) → IsStrictlySortedBy (λ a b. R a.0 b.0) es
  unfolding IsStrictlySortedBy
  sorted_ascend [] h = tt
  sorted_ascend (e ∷ es) h = (entries_above e es (first _ _ h), sorted_ascend es (second _ _ h))

  -- the entries ascend by their keys
  pub entries_ascend : (m : FinMap R X) → IsStrictlySortedBy (λ a b. R a.0 b.0) (entries m)
  entries_ascend m = sorted_ascend (entries m) (entries_sorted m)

-- ---- what each site has

module _ {X : Type 0} (site : X → ℕ) (cmp : X → X → Ordering) (by_site : (a b : X) → site a < site b → cmp a b ≡ Less)
    (at : Record → List X) (here : (r : Record) (x : X) → Contains (at r) x → site x ≡ r.engagement.me) (ascends : (r : Record) → IsStrictlySortedBy cmp (at r)) where
  somewhere : (rs : List Record) (x : X) → Contains (flat_map at rs) x → (j : ℕ) × (r : Record) × (slice_get rs j ≡ Some r) × Contains (at r) x
  somewhere [] x among = absurd (contains_none x among)
  somewhere (r ∷ rs) x among = elim (Contains-append_cases (at r) (flat_map at rs) x among) [
    | inl first ↦ (zero, r, refl, first)
    | inr later ↦ let m = somewhere rs x later in (suc m.0, m.1, m.2, m.3)
  ]

  abbrev Rise : List Record → Type 0
  Rise rs = (i j : ℕ) (r s : Record) → i < j → slice_get rs i ≡ Some r → slice_get rs j ≡ Some s → r.engagement.me < s.engagement.me

  all_ascend : (rs : List Record) → Rise rs → IsStrictlySortedBy cmp (flat_map at rs)
  unfolding IsStrictlySortedBy
  all_ascend [] rise = tt
  all_ascend (r ∷ rs) rise =
      ascend_append cmp (at r) (flat_map at rs) (ascends r) (all_ascend rs (λ i j x y below a b. rise (suc i) (suc j) x y (omega (arith, below)) a b))
      (λ x y first later.
      let m = somewhere rs y later in
      let low = here r x first in
      let high = here m.1 y m.3 in
      by_site x y (subst (λ n. n < site y) (sym low) (subst (λ n. r.engagement.me < n) (sym high) (rise zero (suc m.0) r m.1 (omega arith) refl m.2))))

  module _ (rs : List Record) (places : AreInPlace rs) where
    number_at : (j : ℕ) (r : Record) → slice_get rs j ≡ Some r → r.engagement.me ≡ j
    number_at j r is = ap (λ z. z.engagement.me) (sym (get_or_from_slice_get rs j r (fresh [] j) is)) ∙ (places j (slice_get_within rs j r is)).engagement

    sites_ascend : IsStrictlySortedBy cmp (flat_map at rs)
    sites_ascend = all_ascend rs (λ i j r s below a b. subst (λ n. n < s.engagement.me) (sym (number_at i r a)) (subst (λ n. i < n) (sym (number_at j s b)) below))

    named : (s : ℕ) → (world_of rs s).engagement.me ≡ s
    named s = elim (within_or_past s (length rs)) as (λ _. (world_of rs s).engagement.me ≡ s) [
      | inl below ↦ (places s below).engagement
      | inr past ↦ ap (λ z. z.engagement.me) (get_or_past rs s (fresh [] s) past)
    ]

    module _ (nothing : (s : ℕ) → at (fresh [] s) ≡ []) where
      sites_exact : (x : X) → Contains (flat_map at rs) x ↔ Contains (at (world_of rs (site x))) x
      sites_exact x = (
        λ among.
            let m = somewhere rs x among in
            let same : m.0 ≡ site x = sym (here m.1 x m.3 ∙ number_at m.0 m.1 m.2) in
            subst (λ s. Contains (at (world_of rs s)) x) same (subst (λ z. Contains (at z) x) (sym (get_or_from_slice_get rs m.0 m.1 (fresh [] m.0) m.2)) m.3),
        λ has. elim (within_or_past (site x) (length rs)) as (λ _. Contains (flat_map at rs) x) [
          | inl below ↦
              let is = slice_get-get_or rs (site x) (fresh [] (site x)) below in
              contains-flat_map at rs (world_of rs (site x)) x (site x, below, get_or_from_slice_get rs (site x) (world_of rs (site x)) _ is) has
          | inr past ↦
              let empty : world_of rs (site x) ≡ fresh [] (site x) = get_or_past rs (site x) (fresh [] (site x)) past in
              absurd (contains_none x (subst (λ xs. Contains xs x) (ap at empty ∙ nothing (site x)) has))
        ],
      )

      -- the lists of all sites make one list of all that there is, where each site's list has all of its own
      pub all_of_sites : (Is : X → Type 0) → ((x : X) → (world_of rs (site x)).engagement.me ≡ site x → Contains (at (world_of rs (site x))) x ↔ Is x) → AreAllBy cmp Is (flat_map at rs)
      all_of_sites Is each = record {
        ascending = sites_ascend;
        exact = λ x.
            let own = each x (named (site x)) in
            let all = sites_exact x in
            (λ among. own.0 (all.0 among), λ is. all.1 (own.1 is));
      }
