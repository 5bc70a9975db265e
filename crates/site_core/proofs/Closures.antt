-- What chains of a relation reach is a list, where the relation has an answer at each two, and leads into a list.
use Rattle.std.proofs.Common.{◌≡◌, ◌⊎◌, ◌↔◌, inl, inr, ℕ, zero, suc, ◌≤◌, List, [], ◌∷◌, length, refl, sym, ap, subst, arith}
use Rattle.std.specs.List.{Contains}
use Rattle.trace_core.specs.Relations.{ReachedFrom}
use Rattle.trace_core.proofs.ChainLaws.{reached_start, reached_step, reached_holds}
use Rattle.trace_core.proofs.Members.{contains_here, contains_there, contains_cases, contains_none}
use Rattle.site_core.proofs.Questions.{Decided}

module _ {K : Type 0} (R : K → K → Type 0) (decide : (x y : K) → Decided (R x y)) where
  LeadsFrom : List K → K → Type 0
  LeadsFrom xs y = (x : K) × Contains xs x × R x y

  leads_from : (xs : List K) (y : K) → Decided (LeadsFrom xs y)
  unfolding LeadsFrom
  leads_from [] y = inr (λ (x, there, r). contains_none x there)
  leads_from (x ∷ xs) y = elim (decide x y) [
    | inl r ↦ inl (x, contains_here x xs, r)
    | inr none ↦ elim (leads_from xs y) [
      | inl later ↦ inl (later.0, contains_there x later.0 xs later.1, later.2)
      | inr never ↦ inr (λ (z, there, r). elim (contains_cases x z xs there) [
        | inl same ↦ none (subst (λ w. R w y) (sym same) r)
        | inr later ↦ never (z, later, r)
      ])
    ]
  ]

  -- one of those that are left is led to, and the others
  record IsNext (xs left : List K) : Type 0 where
    pub next : K
    pub leads : LeadsFrom xs next
    pub others : List K
    pub shorter : length left ≡ suc (length others)
    pub rest : (j : K) → Contains left j → (next ≡ j) ⊎ Contains others j

  next_of : (xs left : List K) → IsNext xs left ⊎ ((y : K) → Contains left y → LeadsFrom xs y → ⊥)
  next_of xs [] = inr (λ y there leads. contains_none y there)
  next_of xs (z ∷ left) = elim (leads_from xs z) [
    | inl leads ↦ inl (record { next = z; leads = leads; others = left; shorter = refl; rest = λ j there. contains_cases z j left there })
    | inr none ↦ elim (next_of xs left) [
      | inl later ↦ inl (record {
        next = later.next;
        leads = later.leads;
        others = z ∷ later.others;
        shorter = ap suc later.shorter;
        rest = λ j there. elim (contains_cases z j left there) [
          | inl same ↦ inr (subst (Contains (z ∷ later.others)) same (contains_here z later.others))
          | inr among ↦ elim (later.rest j among) [
            | inl is ↦ inl is
            | inr other ↦ inr (contains_there z j later.others other)
          ]
        ];
      })
      | inr never ↦ inr (λ y there leads. elim (contains_cases z y left there) [
        | inl same ↦ none (subst (LeadsFrom xs) (sym same) leads)
        | inr later ↦ never y later leads
      ])
    ]
  ]

  module _ (starts : List K) where
    -- what was found so far, and what else can be
    record Finding (xs left : List K) : Type 0 where
      pub reached : (j : K) → Contains xs j → ReachedFrom R starts j
      pub begun : (j : K) → Contains starts j → Contains xs j
      pub others : (x y : K) → R x y → Contains xs y ⊎ Contains left y

    one_more : (xs left : List K) → Finding xs left → (n : IsNext xs left) → Finding (n.next ∷ xs) n.others
    unfolding LeadsFrom
    one_more xs left so_far n = record {
      reached = λ j there. elim (contains_cases n.next j xs there) [
        | inl same ↦ subst (ReachedFrom R starts) same (reached_step R starts n.leads.0 n.next (so_far.reached n.leads.0 n.leads.1) n.leads.2)
        | inr before ↦ so_far.reached j before
      ];
      begun = λ j there. contains_there n.next j xs (so_far.begun j there);
      others = λ x y r. elim (so_far.others x y r) [
        | inl found ↦ inl (contains_there n.next y xs found)
        | inr later ↦ elim (n.rest y later) [
          | inl same ↦ inl (subst (Contains (n.next ∷ xs)) same (contains_here n.next xs))
          | inr other ↦ inr other
        ]
      ];
    }

    all_found : (xs left : List K) → Finding xs left → ((y : K) → Contains left y → LeadsFrom xs y → ⊥) → (j : K) → Contains xs j ↔ ReachedFrom R starts j
    unfolding LeadsFrom
    all_found xs left so_far never j = (
      so_far.reached j,
      λ (x, there, reaches). reached_holds R (Contains xs) (λ y z found r. elim (so_far.others y z r) [
        | inl among ↦ among
        | inr later ↦ absurd (never z later (y, found, r))
      ]) x j reaches (so_far.begun x there),
    )

    search_on : (n : ℕ) (xs left : List K) → length left ≤ n → Finding xs left → (ys : List K) × ((j : K) → Contains ys j ↔ ReachedFrom R starts j)
    search_on zero xs left within so_far = elim (next_of xs left) [
      | inl n ↦ absurd (omega (arith, n.shorter, within))
      | inr never ↦ (xs, all_found xs left so_far never)
    ]
    search_on (suc k) xs left within so_far = elim (next_of xs left) [
      | inl n ↦ search_on k (n.next ∷ xs) n.others (omega (arith, n.shorter, within)) (one_more xs left so_far n)
      | inr never ↦ (xs, all_found xs left so_far never)
    ]

    pub reached_list : (targets : List K) → ((x y : K) → R x y → Contains targets y) → (ys : List K) × ((j : K) → Contains ys j ↔ ReachedFrom R starts j)
    reached_list targets into = search_on (length targets) starts targets (omega arith) (record { reached = λ j there. reached_start R starts j there; begun = λ j there. there; others = λ x y r. inr (into x y r) })
