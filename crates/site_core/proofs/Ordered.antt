-- A property that has an answer at each element, and holds of elements of a list alone, has an ascending list.
use Rattle.std.proofs.Common.{◌≡◌, ◌⊎◌, ◌↔◌, inl, inr, List, [], ◌∷◌, refl, sym, ap, subst, ◌∙◌}
use Rattle.std.specs.Cmp.{IsTotalOrder}
use Rattle.std.specs.FinMap.{IsAntisymmetric}
use Rattle.std.specs.List.{AllByRecursion, Contains}
use Rattle.std.specs.List.Sorted.{IsStrictlySortedBy}
use Rattle.std.specs.Ordering.{ordering_reverse}
use Rattle.std.specs.declared.cmp.Ordering.{Ordering}
use Rattle.std.specs.declared.cmp.Ordering.TheVariants.{Less, Equal, Greater}
use Rattle.trace_core.proofs.Members.{contains_here, contains_there, contains_cases, contains_none}
use Rattle.site_core.proofs.Ascending.{head_below, tail_ascends}
use Rattle.site_core.proofs.Questions.{Decided}

all_members : {X : Type 0} (P : X → Type 0) (xs : List X) → ((x : X) → Contains xs x → P x) → AllByRecursion P xs
all_members P [] each = tt
all_members P (x ∷ xs) each = (each x (contains_here x xs), all_members P xs (λ y there. each y (contains_there x y xs there)))

-- the list has just what has the property, ascending
pub record ListsAll {K : Type 0} (cmp : K → K → Ordering) (P : K → Type 0) : Type 0 where
  pub list : List K
  pub ascending : IsStrictlySortedBy cmp list
  pub exact : (k : K) → Contains list k ↔ P k

module _ {K : Type 0} (cmp : K → K → Ordering) (total : IsTotalOrder cmp) (exact : IsAntisymmetric cmp) where
  none_ascend : IsStrictlySortedBy cmp []
  unfolding IsStrictlySortedBy
  none_ascend = tt

  first_ascends : (x : K) (xs : List K) → ((y : K) → Contains xs y → cmp x y ≡ Less) → IsStrictlySortedBy cmp xs → IsStrictlySortedBy cmp (x ∷ xs)
  unfolding IsStrictlySortedBy
  first_ascends x xs below up = (all_members (λ y. cmp x y ≡ Less) xs below, up)

  -- with one more element
  with_one : (k : K) (xs : List K) → IsStrictlySortedBy cmp xs → ListsAll cmp (λ j. (k ≡ j) ⊎ Contains xs j)
  with_one k [] up = record {
    list = k ∷ [];
    ascending = first_ascends k [] (λ y there. absurd (contains_none y there)) none_ascend;
    exact = λ j. (
      contains_cases k j [],
      λ either. elim either [
        | inl same ↦ subst (Contains (k ∷ [])) same (contains_here k [])
        | inr there ↦ contains_there k j [] there
      ],
    );
  }
  with_one k (x ∷ xs) up = elim (cmp k x) as (λ o. cmp k x ≡ o → ListsAll cmp (λ j. (k ≡ j) ⊎ Contains (x ∷ xs) j)) [
    | Less ↦ λ e. record {
      list = k ∷ x ∷ xs;
      ascending = first_ascends k (x ∷ xs) (λ y there. elim (contains_cases x y xs there) [
        | inl same ↦ subst (λ z. cmp k z ≡ Less) same e
        | inr later ↦ total.trans k x y e (head_below cmp x xs up y later)
      ]) up;
      exact = λ j. (
        contains_cases k j (x ∷ xs),
        λ either. elim either [
          | inl same ↦ subst (Contains (k ∷ x ∷ xs)) same (contains_here k (x ∷ xs))
          | inr there ↦ contains_there k j (x ∷ xs) there
        ],
      );
    }
    | Equal ↦ λ e. record {
      list = x ∷ xs;
      ascending = up;
      exact = λ j. (
        λ there. inr there,
        λ either. elim either [
          | inl same ↦ subst (Contains (x ∷ xs)) (sym (exact k x e) ∙ same) (contains_here x xs)
          | inr there ↦ there
        ],
      );
    }
    | Greater ↦ λ e. behind e (with_one k xs (tail_ascends cmp x xs up))
  ] refl
    where
      behind : cmp k x ≡ Greater → ListsAll cmp (λ j. (k ≡ j) ⊎ Contains xs j) → ListsAll cmp (λ j. (k ≡ j) ⊎ Contains (x ∷ xs) j)
      behind above rest = record {
        list = x ∷ rest.list;
        ascending = first_ascends x rest.list (λ y there. elim ((rest.exact y).0 there) [
          | inl same ↦ subst (λ z. cmp x z ≡ Less) same (total.antisymm x k ∙ ap ordering_reverse above)
          | inr later ↦ head_below cmp x xs up y later
        ]) rest.ascending;
        exact = λ j. (
          λ there. elim (contains_cases x j rest.list there) [
            | inl same ↦ inr (subst (Contains (x ∷ xs)) same (contains_here x xs))
            | inr later ↦ elim ((rest.exact j).0 later) [
              | inl is ↦ inl is
              | inr among ↦ inr (contains_there x j xs among)
            ]
          ],
          λ either. elim either [
            | inl is ↦ contains_there x j rest.list ((rest.exact j).1 (inl is))
            | inr among ↦ elim (contains_cases x j xs among) [
              | inl same ↦ subst (Contains (x ∷ rest.list)) same (contains_here x rest.list)
              | inr later ↦ contains_there x j rest.list ((rest.exact j).1 (inr later))
            ]
          ],
        );
      }

  module _ (P : K → Type 0) (decide : (k : K) → Decided (P k)) where
    more : (x : K) (xs : List K) → P x → (rest : ListsAll cmp (λ j. Contains xs j × P j)) → ListsAll cmp (λ j. (x ≡ j) ⊎ Contains rest.list j) → ListsAll cmp (λ j. Contains (x ∷ xs) j × P j)
    more x xs has rest found = record {
      list = found.list;
      ascending = found.ascending;
      exact = λ j. (
        λ there. elim ((found.exact j).0 there) [
          | inl same ↦ (subst (Contains (x ∷ xs)) same (contains_here x xs), subst P same has)
          | inr later ↦ let (in_rest, is) = (rest.exact j).0 later in (contains_there x j xs in_rest, is)
        ],
        λ (there, is). (found.exact j).1 (elim (contains_cases x j xs there) [
          | inl same ↦ inl same
          | inr later ↦ inr ((rest.exact j).1 (later, is))
        ]),
      );
    }

    no_more : (x : K) (xs : List K) → (P x → ⊥) → ListsAll cmp (λ j. Contains xs j × P j) → ListsAll cmp (λ j. Contains (x ∷ xs) j × P j)
    no_more x xs lacks rest = record {
      list = rest.list;
      ascending = rest.ascending;
      exact = λ j. (
        λ there. let (later, has) = (rest.exact j).0 there in (contains_there x j xs later, has),
        λ (there, has). elim (contains_cases x j xs there) [
          | inl same ↦ absurd (lacks (subst P (sym same) has))
          | inr later ↦ (rest.exact j).1 (later, has)
        ],
      );
    }

    among : (xs : List K) → ListsAll cmp (λ j. Contains xs j × P j)
    among [] = record { list = []; ascending = none_ascend; exact = λ j. (λ there. absurd (contains_none j there), λ h. h.0) }
    among (x ∷ xs) =
        let rest = among xs in
        elim (decide x) [
          | inl has ↦ more x xs has rest (with_one x rest.list rest.ascending)
          | inr lacks ↦ no_more x xs lacks rest
        ]

    pub in_order : (xs : List K) → ((k : K) → P k → Contains xs k) → ListsAll cmp P
    in_order xs all =
        let found = among xs in
        record { list = found.list; ascending = found.ascending; exact = λ k. (λ there. ((found.exact k).0 there).1, λ has. (found.exact k).1 (all k has, has)) }
