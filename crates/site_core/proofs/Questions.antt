-- Questions that have an answer, and the least of a list that has a property.
use Rattle.std.proofs.Common.{◌≡◌, ◌≢◌, ◌⊎◌, inl, inr, ℕ, ◌<◌, List, [], ◌∷◌, refl, sym, ap, subst, ◌∙◌, arith}
use Rattle.std.specs.Cmp.{IsTotalOrder, nat_cmp_total}
use Rattle.std.specs.FinMap.{IsAntisymmetric, nat_cmp-IsAntisymmetric}
use Rattle.std.specs.List.{Contains}
use Rattle.std.specs.Ordering.{ordering_reverse}
use Rattle.std.specs.declared.cmp.Ordering.{Ordering}
use Rattle.std.specs.declared.cmp.Ordering.TheVariants.{Less, Equal, Greater}
use Rattle.std.proofs.lemmas.Bool.{cases_lt}
use Rattle.std.proofs.lemmas.Cmp.{tied_itself}
use Rattle.frame_core.proofs.Lookups.{one_key}
use Rattle.trace_core.proofs.Members.{contains_cases, contains_none}

abbrev pub Decided : Type 0 → Type 0
Decided P = P ⊎ (P → ⊥)

pub all_of : {P Q : Type 0} → Decided P → Decided Q → Decided (P × Q)
all_of (inl p) (inl q) = inl (p, q)
all_of (inl p) (inr denied) = inr (λ h. denied h.1)
all_of (inr denied) q = inr (λ h. denied h.0)

pub alike : {P Q : Type 0} → (P → Q) → (Q → P) → Decided P → Decided Q
alike there back (inl p) = inl (there p)
alike there back (inr denied) = inr (λ q. denied (back q))

pub none_of : {P : Type 0} → Decided P → Decided (P → ⊥)
none_of (inl p) = inr (λ denied. denied p)
none_of (inr denied) = inl denied

pub is_equal : (n k : ℕ) → Decided (n ≡ k)
is_equal n k = one_key nat_cmp_total nat_cmp-IsAntisymmetric n k

pub is_below : (n k : ℕ) → Decided (n < k)
is_below n k = elim (cases_lt n k) [
  | inl lt ↦ inl lt
  | inr le ↦ inr (λ lt. omega (arith, lt, le))
]

-- the least of those in the list that have the property
pub record IsLeastOf {K : Type 0} (cmp : K → K → Ordering) (P : K → Type 0) (xs : List K) (k : K) : Type 0 where
  pub has : P k
  pub least : (j : K) → Contains xs j → P j → cmp k j ≢ Greater

module _ {K : Type 0} (cmp : K → K → Ordering) (total : IsTotalOrder cmp) (exact : IsAntisymmetric cmp) where
  pub not_above_itself : (x y : K) → x ≡ y → cmp x y ≢ Greater
  not_above_itself x y same greater = let tie : cmp x y ≡ Equal = subst (λ z. cmp x z ≡ Equal) same (tied_itself total x) in cc

  pub not_above : (x y : K) → cmp y x ≡ Greater → cmp x y ≢ Greater
  not_above x y above greater = let below : cmp x y ≡ Less = total.antisymm x y ∙ ap ordering_reverse above in cc

  pub up_to : (x y z : K) → cmp x y ≢ Greater → cmp y z ≢ Greater → cmp x z ≢ Greater
  up_to x y z first second = elim (cmp x y) as (λ o. cmp x y ≡ o → cmp x z ≢ Greater) [
    | Less ↦ λ e. elim (cmp y z) as (λ o. cmp y z ≡ o → cmp x z ≢ Greater) [
      | Less ↦ λ f greater. let below : cmp x z ≡ Less = total.trans x y z e f in cc
      | Equal ↦ λ f. subst (λ w. cmp x w ≢ Greater) (exact y z f) first
      | Greater ↦ λ f. absurd (second f)
    ] refl
    | Equal ↦ λ e. subst (λ w. cmp w z ≢ Greater) (sym (exact x y e)) second
    | Greater ↦ λ e. absurd (first e)
  ] refl

  module _ (P : K → Type 0) (decide : (k : K) → Decided (P k)) where
    alone : (x : K) (xs : List K) → P x → ((j : K) → Contains xs j → P j → ⊥) → IsLeastOf cmp P (x ∷ xs) x
    alone x xs has none = record {
      has = has;
      least = λ j there also. elim (contains_cases x j xs there) [
        | inl same ↦ not_above_itself x j same
        | inr later ↦ absurd (none j later also)
      ];
    }

    neither : (x : K) (xs : List K) → (P x → ⊥) → ((j : K) → Contains xs j → P j → ⊥) → (j : K) → Contains (x ∷ xs) j → P j → ⊥
    neither x xs lacks none j there also = elim (contains_cases x j xs there) [
      | inl same ↦ lacks (subst P (sym same) also)
      | inr later ↦ none j later also
    ]

    behind : (x k : K) (xs : List K) → (P x → cmp k x ≢ Greater) → IsLeastOf cmp P xs k → IsLeastOf cmp P (x ∷ xs) k
    behind x k xs first is = record {
      has = is.has;
      least = λ j there also. elim (contains_cases x j xs there) [
        | inl same ↦ subst (λ z. cmp k z ≢ Greater) same (first (subst P (sym same) also))
        | inr later ↦ is.least j later also
      ];
    }

    before : (x k : K) (xs : List K) → P x → cmp x k ≢ Greater → IsLeastOf cmp P xs k → IsLeastOf cmp P (x ∷ xs) x
    before x k xs has first is = record {
      has = has;
      least = λ j there also. elim (contains_cases x j xs there) [
        | inl same ↦ not_above_itself x j same
        | inr later ↦ up_to x k j first (is.least j later also)
      ];
    }

    pub least_or_none : (xs : List K) → ((k : K) × IsLeastOf cmp P xs k) ⊎ ((j : K) → Contains xs j → P j → ⊥)
    least_or_none [] = inr (λ j there also. contains_none j there)
    least_or_none (x ∷ xs) = elim (least_or_none xs) [
      | inr none ↦ elim (decide x) [
        | inl has ↦ inl (x, alone x xs has none)
        | inr lacks ↦ inr (neither x xs lacks none)
      ]
      | inl found ↦ elim (decide x) [
        | inr lacks ↦ inl (found.0, behind x found.0 xs (λ has. absurd (lacks has)) found.1)
        | inl has ↦ elim (cmp x found.0) as (λ o. cmp x found.0 ≡ o → ((k : K) × IsLeastOf cmp P (x ∷ xs) k) ⊎ ((j : K) → Contains (x ∷ xs) j → P j → ⊥)) [
          | Less ↦ λ e. inl (x, before x found.0 xs has (λ greater. let both : Less ≡ Greater = sym e ∙ greater in cc) found.1)
          | Equal ↦ λ e. inl (x, before x found.0 xs has (λ greater. let both : Equal ≡ Greater = sym e ∙ greater in cc) found.1)
          | Greater ↦ λ e. inl (found.0, behind x found.0 xs (λ _. not_above found.0 x e) found.1)
        ] refl
      ]
    ]
