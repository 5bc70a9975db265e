-- What lies in an item, by what was found in turn.
use Rattle.std.proofs.Common.{◌≡◌, ◌↔◌, inr, ℕ, ◌<◌, ◌≤◌, List, [], ◌∷◌, Some, length, slice_get, refl, sym, ap, subst, ⊎_elim, Bor, arith, ◌==◌, true, Result, Ok, Err, IfOk, rules}
use Rattle.std.proofs.lemmas.Bool.{eqb-true}
use Rattle.std.specs.List.{Contains}
use Rattle.std.specs.List.Sorted.{IsStrictlySortedBy}
use Rattle.std.proofs.lemmas.Map.Lookups.{CmpEqualImpliesEq, exact_bytes}
use Rattle.std.proofs.lemmas.Option.{slice_get_within}
use Rattle.trace_core.specs.Chains.{sites_at}
use Rattle.trace_core.specs.Pairs.{Carries}
use Rattle.trace_core.specs.Relations.{ReachedFrom}
use Rattle.trace_core.specs.Sites.{SiteEvents}
use Rattle.trace_core.proofs.Members.{contains_none}
use Rattle.gap_core.specs.Adding.{AddsToList, ByOne, NotesThose}
use Rattle.gap_core.specs.Inside.{AreInside, IsPackedBySome, LiesInside}
use Rattle.gap_core.specs.Sources.{item_cmp}
use Rattle.gap_core.proofs.Additions.{Before}
use Rattle.gap_core.proofs.Notings.{noted_alone, notes_alike, placed, stands_in}
use Rattle.gap_core.proofs.Turns.{by_sites}

-- what the sites behind references packed
pub packed_by_some : (refs : List (Bor SiteEvents)) (i : List ℕ) (old new : List (List ℕ))
    → NotesThose (ByOne refs (λ (r : Bor SiteEvents). Carries r.now.events i)) old new → NotesThose (IsPackedBySome (sites_at refs) i) old new
packed_by_some refs i old new =
    notes_alike (ByOne refs (λ (r : Bor SiteEvents). Carries r.now.events i)) (IsPackedBySome (sites_at refs) i) old new
    (by_sites refs (λ (s : SiteEvents). Carries s.events i))

-- no site packed anything
pub none_inside : (item : List ℕ) → (sites : List SiteEvents) → sites ≡ [] → (i : List ℕ) → LiesInside sites item i → ⊥
none_inside item sites none i (child, (s, there, carries), reaches) = contains_none s (subst (λ xs. Contains xs s) none there)

-- a list has what stands at its places
pub all_listed : (found items : List (List ℕ)) (n : ℕ) → length found ≤ n → AddsToList [] items (Before n (λ k i. slice_get found k ≡ Some i))
    → (i : List ℕ) → Contains items i ↔ Contains found i
all_listed found items n past adds i = (
  λ h. ⊎_elim (λ none. absurd (contains_none i none)) (λ (k, below, so). stands_in found k i so) ((adds i).0 h),
  λ h. let (k, so) = placed found i h in (adds i).1 (inr (k, within k (slice_get_within found k i so), so)),
)
  where
    within : (k : ℕ) → k < length found → k < n
    within k below = omega (arith, below, past)

-- what was found of the item's children is what lies in it
pub found_inside : (sites : List SiteEvents) (item : List ℕ) (none children found items ordered : List (List ℕ)) → none ≡ []
    → NotesThose (IsPackedBySome sites item) none children
    → ((i : List ℕ) → Contains found i ↔ ReachedFrom (IsPackedBySome sites) children i)
    → ((i : List ℕ) → Contains items i ↔ Contains found i)
    → (CmpEqualImpliesEq item_cmp → (i : List ℕ) → Contains ordered i ↔ Contains items i)
    → IsStrictlySortedBy item_cmp ordered
    → AreInside sites item ordered
found_inside sites item none children found items ordered empty notes reached listed same ascending = record {
  ascending = ascending;
  exact = λ i. (
    λ h.
        let (child, there, reaches) = (reached i).0 ((listed i).0 ((same exact_items i).0 h)) in
        (child, (noted_alone (IsPackedBySome sites item) none children empty notes child).0 there, reaches),
    λ (child, packed, reaches).
        (same exact_items i).1 ((listed i).1 ((reached i).1 (child, (noted_alone (IsPackedBySome sites item) none children empty notes child).1 packed, reaches))),
  );
}
  where
    exact_items : CmpEqualImpliesEq item_cmp
    exact_items a b h = exact_bytes a b h

-- nothing lies in it where there is no site
pub nothing_inside : (refs : List (Bor SiteEvents)) (item : List ℕ) (items : List (List ℕ)) → items ≡ [] → true ≡ (length refs == 0) → AreInside (sites_at refs) item items
unfolding IsStrictlySortedBy
nothing_inside refs item items none empty =
    let no_sites = ap (λ (rs : List (Bor SiteEvents)). sites_at rs) (none_are refs (eqb-true (length refs) 0 (sym empty))) in
    subst (AreInside (sites_at refs) item) (sym none)
    (record {
      ascending = search rules;
      exact = λ i. (λ h. absurd (contains_none i h), λ lies. absurd (none_inside item (sites_at refs) no_sites i lies));
    })
  where
    none_are : {X : Type 0} (xs : List X) → length xs ≡ 0 → xs ≡ []
    none_are [] h = refl
    none_are (x ∷ xs) h = absurd (let no : length (x ∷ xs) ≡ 0 = h in omega (arith, no))

-- what two clauses of one result give together
pub if_both : {T E : Type 0} (P Q S : T → Type 0) → ((t : T) → P t → Q t → S t) → (r : Result T E) → IfOk r P → IfOk r Q → IfOk r S
if_both P Q S gives (Ok t) p q = gives t p q
if_both P Q S gives (Err e) p q = tt
