-- Members of ordered sets after a change, and of lists after one more element.
use Rattle.std.proofs.Common.{◌≡◌, ◌<◌, ◌+◌, ℕ, true, false, List, [], ◌∷◌, ◌++◌, map, take, length, get_or, ◌↔◌, sym, ap, ◌∙◌, subst, inl, inr, ⊎_elim}
use mathlib.Core.Bool.{false≢true}
use mathlib.Core.Logic.{◌⊎◌}
use Rattle.std.specs.BTreeSet.{BTreeSet, contains, Updates}
use Rattle.std.specs.Cmp.{IsTotalOrder, eq_by_cmp_equiv}
use Rattle.std.specs.List.{Contains, flat_map}
use Rattle.std.specs.Ordering.{eq_by_cmp}
use Rattle.std.specs.declared.cmp.Ordering.{Ordering}
use Rattle.std.proofs.lemmas.Bool.{cases_Bool, cond-true, cond-false}
use Rattle.std.proofs.lemmas.List.{take_more}
use Rattle.std.proofs.lemmas.List.Elements.{Contains-append_left, Contains-append_right, Contains-append_cases, Contains-push}
use Rattle.std.proofs.lemmas.Map.Lookups.{CmpEqualImpliesEq}
use Rattle.std.proofs.lemmas.Map.Views.{tells_apart}
use Rattle.trace_core.specs.Searches.{IsFound}
use Rattle.trace_core.proofs.Members.{contains_here, contains_there, contains_cases, contains_none}

module _ {K : Type 0} (cmp : K → K → Ordering) (total : IsTotalOrder cmp) (exact : CmpEqualImpliesEq cmp) where
  itself : (k : K) → eq_by_cmp cmp k k ≡ true
  itself k = (eq_by_cmp_equiv total).refl k

  pub found-insert : (old new : BTreeSet K) (k : K) → Updates cmp old new k true → (q : K) → IsFound cmp new q ↔ (IsFound cmp old q ⊎ (k ≡ q))
  found-insert old new k upd q = (
    λ h. ⊎_elim
        (λ at. inr (tells_apart exact k q at))
        (λ not_at. inl (sym (upd.0 q ∙ cond-false _ true (contains cmp old q) not_at) ∙ h))
        (cases_Bool (eq_by_cmp cmp k q)),
    λ either. ⊎_elim
        (λ before. ⊎_elim
        (λ at. upd.0 q ∙ cond-true _ true (contains cmp old q) at)
        (λ not_at. upd.0 q ∙ cond-false _ true (contains cmp old q) not_at ∙ before)
        (cases_Bool (eq_by_cmp cmp k q)))
        (λ same. subst (IsFound cmp new) same upd.1)
        either,
  )

  pub found-remove : (old new : BTreeSet K) (k : K) → Updates cmp old new k false → (q : K) → IsFound cmp new q ↔ (IsFound cmp old q × (k ≡ q → ⊥))
  found-remove old new k upd q = (
    λ h. ⊎_elim
        (λ at. absurd (false≢true (sym (upd.0 q ∙ cond-true _ false (contains cmp old q) at) ∙ h)))
        (λ not_at. (sym (upd.0 q ∙ cond-false _ false (contains cmp old q) not_at) ∙ h, λ same. false≢true (sym not_at ∙ subst (λ x. eq_by_cmp cmp k x ≡ true) same (itself k))))
        (cases_Bool (eq_by_cmp cmp k q)),
    λ (before, other). ⊎_elim
        (λ at. absurd (other (tells_apart exact k q at)))
        (λ not_at. upd.0 q ∙ cond-false _ false (contains cmp old q) not_at ∙ before)
        (cases_Bool (eq_by_cmp cmp k q)),
  )

only : {X : Type 0} (x y : X) → Contains (x ∷ []) y → x ≡ y
only x y h = ⊎_elim (λ e. e) (λ none. absurd (contains_none y none)) (contains_cases x y [] h)

-- one more element
pub contains_more : {X : Type 0} (xs : List X) (i : ℕ) (x : X) → i < length xs → x ≡ get_or xs i x → (y : X) → Contains (take (i + 1) xs) y ↔ (Contains (take i xs) y ⊎ (x ≡ y))
contains_more xs i x lt at y =
    let more : take (i + 1) xs ≡ take i xs ++ x ∷ [] = take_more xs i x lt ∙ ap (λ z. take i xs ++ z ∷ []) (sym at) in (
      λ h. ⊎_elim (λ before. inl before) (λ last. inr (only x y last)) (Contains-append_cases (take i xs) (x ∷ []) y (subst (λ zs. Contains zs y) more h)),
      λ either. subst (λ zs. Contains zs y) (sym more) (⊎_elim
          (λ before. Contains-append_left (take i xs) (x ∷ []) y before)
          (λ same. Contains-append_right (take i xs) (x ∷ []) y (subst (Contains (x ∷ [])) same (contains_here x [])))
          either),
    )

-- one element more at the end
pub contains_pushed : {X : Type 0} (xs : List X) (x y : X) → Contains (xs ++ x ∷ []) y ↔ (Contains xs y ⊎ (x ≡ y))
contains_pushed xs x y = (
  λ h. ⊎_elim (λ before. inl before) (λ last. inr (only x y last)) (Contains-append_cases xs (x ∷ []) y h),
  λ h. ⊎_elim (λ before. Contains-append_left xs (x ∷ []) y before) (λ same. subst (Contains (xs ++ x ∷ [])) same (Contains-push xs x)) h,
)

pub contains-from_map : {A B : Type 0} (f : A → B) (xs : List A) (y : B) → Contains (map f xs) y → (x : A) × Contains xs x × (f x ≡ y)
contains-from_map f [] y h = absurd (contains_none y h)
contains-from_map f (x ∷ xs) y h = ⊎_elim
    (λ here. (x, contains_here x xs, here))
    (λ there. let (z, at, is) = contains-from_map f xs y there in (z, contains_there x z xs at, is))
    (contains_cases (f x) y (map f xs) h)

pub contains-from_flat_map : {A B : Type 0} (f : A → List B) (xs : List A) (y : B) → Contains (flat_map f xs) y → (x : A) × Contains xs x × Contains (f x) y
contains-from_flat_map f [] y h = absurd (contains_none y h)
contains-from_flat_map f (x ∷ xs) y h = ⊎_elim
    (λ here. (x, contains_here x xs, here))
    (λ there. let (z, at, in') = contains-from_flat_map f xs y there in (z, contains_there x z xs at, in'))
    (Contains-append_cases (f x) (flat_map f xs) y h)
