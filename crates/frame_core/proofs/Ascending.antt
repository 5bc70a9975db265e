-- Entries whose keys strictly rise.
use Rattle.std.proofs.Common.{◌≡◌, Bool, true, false, cond, not, List, [], ◌∷◌, ◌++◌, Some, None, refl, sym, ap, subst, ◌∙◌}
use Rattle.std.specs.Prelude.{T, ◌&&◌}
use Rattle.std.specs.Cmp.{IsTotalOrder}
use Rattle.std.specs.Ordering.{is_lt, is_eq, eq_by_cmp, ordering_reverse}
use Rattle.std.specs.declared.cmp.Ordering.{Ordering}
use Rattle.std.specs.declared.cmp.Ordering.TheVariants.{Less, Equal, Greater}
use Rattle.std.specs.List.{filter, AllByRecursion}
use Rattle.std.specs.List.Sorted.{IsStrictlySortedBy}
use Rattle.std.specs.Map.{keys_of, lookup, remove_entry, set_value}
use Rattle.std.specs.BTreeMap.{insert_entry, is_at}
use Rattle.std.specs.FinMap.{find, put, is_sorted}
use Rattle.std.specs.FinMap.Entries.{below_all}

-- the keys strictly rise
abbrev pub IsAscending : {K X : Type 0} → (K → K → Ordering) → List (K × X) → Type 0
IsAscending R es = T (is_sorted R es)

-- the entries of all other keys
abbrev pub without : {K X : Type 0} → (K → K → Ordering) → K → List (K × X) → List (K × X)
without R k es = filter (λ e. not (eq_by_cmp R k e.0)) es

pub first : (a b : Bool) → T (a && b) → T a
first true b p = tt
first false b p = p

pub second : (a b : Bool) → T (a && b) → T b
second true b p = p
second false b p = absurd p

both : (a b : Bool) → T a → T b → T (a && b)
both true b p q = q
both false b p q = p

less : (o : Ordering) → T (is_lt o) → o ≡ Less
less Less p = refl
less Equal p = absurd p
less Greater p = absurd p

is_less : (o : Ordering) → o ≡ Less → T (is_lt o)
is_less o e = subst (λ r. T (is_lt r)) (sym e) tt

module _ {K X : Type 0} (R : K → K → Ordering) where
  below_keys : (x : K) (es : List (K × X)) → AllByRecursion (λ y. R x y ≡ Less) (keys_of es) → T (below_all R x es)
  below_keys x [] h = tt
  below_keys x (e ∷ es) h = both _ _ (is_less _ h.0) (below_keys x es h.1)

  -- keys in order are those of ascending entries
  pub ascending_keys : (es : List (K × X)) → IsStrictlySortedBy R (keys_of es) → IsAscending R es
  unfolding IsStrictlySortedBy
  ascending_keys [] h = tt
  ascending_keys (e ∷ es) h = both _ _ (below_keys e.0 es h.0) (ascending_keys es h.1)

  -- what a tree map finds, and what it inserts
  pub looked_up : (k : K) (es : List (K × X)) → lookup (is_at (R k)) es ≡ find R k es
  looked_up k [] = refl
  looked_up k (e ∷ es) = ap (cond (is_eq (R k e.0)) (Some e.1)) (looked_up k es)

  pub inserted : (k : K) (v : X) (es : List (K × X)) → insert_entry R es k v ≡ put R k v es
  inserted k v [] = refl
  inserted k v (e ∷ es) =
      elim (R k e.0) as (λ r. R k e.0 ≡ r → insert_entry R (e ∷ es) k v ≡ put R k v (e ∷ es)) [
        | Less ↦ λ t. rw t refl
        | Equal ↦ λ t. rw t refl
        | Greater ↦ λ t. rw t (ap (λ ys. e ∷ ys) (inserted k v es))
      ] refl

-- a comparison the other way round
greater_back : {K : Type 0} {R : K → K → Ordering} (o : IsTotalOrder R) (x y : K) → R x y ≡ Less → R y x ≡ Greater
greater_back o x y e = o.antisymm y x ∙ ap ordering_reverse e

module _ {K X : Type 0} {R : K → K → Ordering} (o : IsTotalOrder R) where
  -- k ties with x, which is below all entries
  pub find_above : (x k : K) (es : List (K × X)) → R k x ≡ Equal → T (below_all R x es) → find R k es ≡ None
  find_above x k [] t h = refl
  find_above x k (e ∷ es) t h =
      let below : R k e.0 ≡ Less = o.congr k x e.0 t ∙ less _ (first _ _ h) in
      rw below (find_above x k es t (second _ _ h))

  pub without_above : (x k : K) (es : List (K × X)) → R k x ≡ Equal → T (below_all R x es) → without R k es ≡ es
  without_above x k [] t h = refl
  without_above x k (e ∷ es) t h =
      let below : R k e.0 ≡ Less = o.congr k x e.0 t ∙ less _ (first _ _ h) in
      rw below (ap (λ ys. e ∷ ys) (without_above x k es t (second _ _ h)))

  -- what a tree map removes
  pub removed : (k : K) (es : List (K × X)) → IsAscending R es → remove_entry (is_at (R k)) es ≡ without R k es
  removed k [] up = refl
  removed k (e ∷ es) up =
      elim (R k e.0) as (λ r. R k e.0 ≡ r → remove_entry (is_at (R k)) (e ∷ es) ≡ without R k (e ∷ es)) [
        | Less ↦ λ t. rw t (ap (λ ys. e ∷ ys) (removed k es (second _ _ up)))
        | Equal ↦ λ t. rw t (sym (without_above e.0 k es t (first _ _ up)))
        | Greater ↦ λ t. rw t (ap (λ ys. e ∷ ys) (removed k es (second _ _ up)))
      ] refl

  -- the next entry of ascending ones is put behind those before it
  pub put_next : (es rest whole : List (K × X)) (k : K) (v : X) → es ++ (k, v) ∷ rest ≡ whole → IsAscending R whole → put R k v es ++ rest ≡ whole
  put_next [] rest whole k v is up = is
  put_next (e ∷ es) rest [] k v is up = cc
  put_next (e ∷ es) rest (f ∷ whole) k v is up =
      let tail : es ++ (k, v) ∷ rest ≡ whole = cc in
      let head : e ≡ f = cc in
      let above : R e.0 k ≡ Less = within es (subst (λ ys. T (below_all R e.0 ys)) (sym tail) (subst (λ (g : K × X). T (below_all R g.0 whole)) (sym head) (first _ _ up))) in
      rw (greater_back o e.0 k above) (ap (λ ys. e ∷ ys) (put_next es rest whole k v tail (second _ _ up)) ∙ ap (λ g. g ∷ whole) head)
    where
      within : (fs : List (K × X)) → T (below_all R e.0 (fs ++ (k, v) ∷ rest)) → R e.0 k ≡ Less
      within [] h = less _ (first _ _ h)
      within (g ∷ fs) h = within fs (second _ _ h)

  -- a value that is written over at its key
  pub written : (k : K) (v x : X) (es : List (K × X)) → find R k es ≡ Some x → IsAscending R es → set_value (is_at (R k)) es v ≡ put R k v es
  written k v x [] is up = cc
  written k v x (e ∷ es) is up =
      elim (R k e.0) as (λ r. R k e.0 ≡ r → cond (is_eq r) (Some e.1) (find R k es) ≡ Some x → set_value (is_at (R k)) (e ∷ es) v ≡ put R k v (e ∷ es)) [
        | Less ↦ λ t h. let none : find R k es ≡ None = find_below e.0 k es t (first _ _ up) in cc
        | Equal ↦ λ t h. rw t refl
        | Greater ↦ λ t h. rw t (ap (λ ys. e ∷ ys) (written k v x es h (second _ _ up)))
      ] refl is
    where
      find_below : (x k : K) (fs : List (K × X)) → R k x ≡ Less → T (below_all R x fs) → find R k fs ≡ None
      find_below x k [] t h = refl
      find_below x k (f ∷ fs) t h =
          let below : R k f.0 ≡ Less = o.trans k x f.0 t (less _ (first _ _ h)) in
          rw below (find_below x k fs t (second _ _ h))

  -- a copy of the next entry is put behind the copies of those before it
  pub copied_next : (es es' left rest whole : List (K × X)) (k : K) (v w : X) → es ++ left ≡ whole → left ≡ (k, v) ∷ rest → w ≡ v → es' ≡ put R k w es → IsAscending R whole → es' ++ rest ≡ whole
  copied_next es es' left rest whole k v w so_far step same is up =
      ap (λ ys. ys ++ rest) is ∙ put_next es rest whole k w (ap (λ x. es ++ (k, x) ∷ rest) same ∙ ap (λ ys. es ++ ys) (sym step) ∙ so_far) up
