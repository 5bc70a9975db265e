-- Where two ascending lists of pairs part: at the least pair that one of them has alone.
use Rattle.std.proofs.Common.{◌≡◌, ◌↔◌, inl, inr, Bool, true, false, List, [], ◌∷◌, Option, Some, None, refl, sym, ap, ◌∙◌, subst, Contains}
use Rattle.std.specs.Ordering.{ordering_reverse}
use Rattle.std.specs.declared.cmp.Ordering.TheVariants.{Less, Equal, Greater}
use Rattle.std.proofs.lemmas.Cmp.{tied_itself}
use Rattle.trace_core.specs.Pairs.{pair_cmp, IsStrictlyAscending}
use Rattle.trace_core.specs.declared.pairs.Pair.{Pair}
use Rattle.trace_core.proofs.Members.{contains_here, contains_there, contains_cases, contains_none}
use Rattle.trace_core.proofs.PairOrder.{pairs_exact, pairs_total}
use Rattle.site_core.proofs.Ascending.{head_below, tail_ascends}
use Rattle.report_core.specs.Differences.{parted, difference}

-- The order of pairs.

not_both : (p q : Pair) → pair_cmp p q ≡ Less → pair_cmp q p ≡ Less → ⊥
not_both p q low high =
    let turned : pair_cmp p q ≡ Greater = pairs_total.antisymm p q ∙ ap ordering_reverse high in
    let clash : Less ≡ Greater = sym low ∙ turned in
    cc

not_itself : (p : Pair) → pair_cmp p p ≡ Less → ⊥
not_itself p low =
    let clash : Less ≡ Equal = sym low ∙ tied_itself pairs_total p in
    cc

none_below : (p : Pair) (ps : List Pair) → IsStrictlyAscending (p ∷ ps) → (q : Pair) → Contains (p ∷ ps) q → pair_cmp q p ≡ Less → ⊥
none_below p ps up q at below = elim (contains_cases p q ps at) [
  | inl same ↦ not_itself p (subst (λ z. pair_cmp z p ≡ Less) (sym same) below)
  | inr later ↦ not_both p q (head_below pair_cmp p ps up q later) below
]

all_above : (p q : Pair) (qs : List Pair) → pair_cmp p q ≡ Less → IsStrictlyAscending (q ∷ qs) → (r : Pair) → Contains (q ∷ qs) r → pair_cmp p r ≡ Less
all_above p q qs low up r at = elim (contains_cases q r qs at) [
  | inl same ↦ subst (λ z. pair_cmp p z ≡ Less) same low
  | inr later ↦ pairs_total.trans p q r low (head_below pair_cmp q qs up r later)
]

-- Where they part.

-- one of the lists has the pair alone, the second where so reported
abbrev pub IsAlone : List Pair → List Pair → Pair → Bool → Type 0
IsAlone ps qs p false = Contains ps p × (Contains qs p → ⊥)
IsAlone ps qs p true = Contains qs p × (Contains ps p → ⊥)

abbrev pub AreAlikeBelow : List Pair → List Pair → Pair → Type 0
AreAlikeBelow ps qs p = (q : Pair) → pair_cmp q p ≡ Less → Contains ps q ↔ Contains qs q

abbrev pub PartAt : List Pair → List Pair → Option (Pair × Bool) → Type 0
PartAt ps qs None = ps ≡ qs
PartAt ps qs (Some d) = IsAlone ps qs d.0 d.1 × AreAlikeBelow ps qs d.0

-- the first of a list, below all of the other
first_alone : (p : Pair) (ps qs : List Pair) → IsStrictlyAscending (p ∷ ps) → ((q : Pair) → Contains qs q → pair_cmp p q ≡ Less) → Contains (p ∷ ps) p × (Contains qs p → ⊥) × AreAlikeBelow (p ∷ ps) qs p
first_alone p ps qs up above = (
  contains_here p ps,
  λ at. not_itself p (above p at),
  λ q below. (λ at. absurd (none_below p ps up q at below), λ at. absurd (not_both p q (above q at) below)),
)

-- one first pair for both
module _ (p : Pair) (ps qs : List Pair) (up : IsStrictlyAscending (p ∷ ps)) (up' : IsStrictlyAscending (p ∷ qs)) where
  still_alone : (d : Pair) (later : Bool) → IsAlone ps qs d later → IsAlone (p ∷ ps) (p ∷ qs) d later
  still_alone d false (has, lacks) = (
    contains_there p d ps has,
    λ at. elim (contains_cases p d qs at) [
      | inl same ↦ not_itself p (subst (λ z. pair_cmp p z ≡ Less) (sym same) (head_below pair_cmp p ps up d has))
      | inr there ↦ lacks there
    ],
  )
  still_alone d true (has, lacks) = (
    contains_there p d qs has,
    λ at. elim (contains_cases p d ps at) [
      | inl same ↦ not_itself p (subst (λ z. pair_cmp p z ≡ Less) (sym same) (head_below pair_cmp p qs up' d has))
      | inr there ↦ lacks there
    ],
  )

  one_way : (xs ys : List Pair) (q : Pair) → (Contains xs q → Contains ys q) → Contains (p ∷ xs) q → Contains (p ∷ ys) q
  one_way xs ys q goes at = elim (contains_cases p q xs at) [
    | inl same ↦ subst (Contains (p ∷ ys)) same (contains_here p ys)
    | inr there ↦ contains_there p q ys (goes there)
  ]

  after_tie : (d : Option (Pair × Bool)) → PartAt ps qs d → PartAt (p ∷ ps) (p ∷ qs) d
  after_tie None same = ap (λ xs. p ∷ xs) same
  after_tie (Some d) (alone, alike) = (
    still_alone d.0 d.1 alone,
    λ q below. (one_way ps qs q (alike q below).0, one_way qs ps q (alike q below).1),
  )

pub they_part : (ps qs : List Pair) → IsStrictlyAscending ps → IsStrictlyAscending qs → PartAt ps qs (difference ps qs)
they_part [] [] up up' = refl
they_part (p ∷ ps) [] up up' =
    let alone = first_alone p ps [] up (λ q at. absurd (contains_none q at)) in
    ((alone.0, alone.1), alone.2)
they_part [] (q ∷ qs) up up' =
    let alone = first_alone q qs [] up' (λ r at. absurd (contains_none r at)) in
    ((alone.0, alone.1), λ r below. ((alone.2 r below).1, (alone.2 r below).0))
they_part (p ∷ ps) (q ∷ qs) up up' = elim (pair_cmp p q) as (λ o. pair_cmp p q ≡ o → PartAt (p ∷ ps) (q ∷ qs) (parted o p q (difference ps qs))) [
  | Less ↦ λ low.
      let alone = first_alone p ps (q ∷ qs) up (all_above p q qs low up') in
      ((alone.0, alone.1), alone.2)
  | Equal ↦ λ tied.
      let same : p ≡ q = pairs_exact p q tied in
      let rest = they_part ps qs (tail_ascends pair_cmp p ps up) (tail_ascends pair_cmp q qs up') in
      subst (λ z. PartAt (p ∷ ps) (z ∷ qs) (difference ps qs)) same (after_tie p ps qs up (subst (λ z. IsStrictlyAscending (z ∷ qs)) (sym same) up') (difference ps qs) rest)
  | Greater ↦ λ high.
      let low : pair_cmp q p ≡ Less = pairs_total.antisymm q p ∙ ap ordering_reverse high in
      let alone = first_alone q qs (p ∷ ps) up' (all_above q p ps low up) in
      ((alone.0, alone.1), λ r below. ((alone.2 r below).1, (alone.2 r below).0))
] refl
