-- The entries of a finite map after a change at one key, and the rows that stand for them.
use Rattle.std.proofs.Common.{◌≡◌, Bool, cond, not, List, [], ◌∷◌, ◌++◌, map, filter, None, refl, sym, ap, subst, ◌∙◌, IsPermutation}
use Rattle.std.specs.Prelude.{T}
use Rattle.std.specs.Cmp.{IsTotalOrder}
use Rattle.std.specs.Ordering.{is_eq, is_lt, eq_by_cmp}
use Rattle.std.specs.declared.cmp.Ordering.{Ordering}
use Rattle.std.specs.declared.cmp.Ordering.TheVariants.{Less, Equal, Greater}
use Rattle.std.specs.FinMap.{FinMap, IsAntisymmetric, put, get, insert, remove, entries, entries_sorted, entries-insert, entries-from_sorted, from_sorted, same_entries_map}
use Rattle.std.specs.FinMap.Entries.{below_all, by_order}
use Rattle.std.proofs.lemmas.List.{map-append}
use Rattle.std.proofs.lemmas.List.Sorted.{IsPermutation-refl, IsPermutation-cons, IsPermutation-to_front, IsPermutation-map}
use Rattle.frame_core.proofs.Ascending.{IsAscending, without, first, second, without_above}
use Rattle.frame_core.proofs.Maps.{remove_none, without_sorted, ascending_without}
use Rattle.site_rows.proofs.Permuted.{filter_mapped}

less : (o : Ordering) → T (is_lt o) → o ≡ Less
less Less p = refl
less Equal p = absurd p
less Greater p = absurd p

module _ {K X : Type 0} {R : K → K → Ordering} (o : IsTotalOrder R) where
  -- no key is k where all are above one that k is below
  without_below : (x k : K) (es : List (K × X)) → R k x ≡ Less → T (below_all R x es) → without R k es ≡ es
  without_below x k [] t h = refl
  without_below x k (e ∷ es) t h =
      let below : R k e.0 ≡ Less = o.trans k x e.0 t (less _ (first _ _ h)) in
      rw below (ap (λ ys. e ∷ ys) (without_below x k es t (second _ _ h)))

  module _ (exact : IsAntisymmetric R) where
    put_entry : (k : K) (v : X) (es : List (K × X)) → IsAscending R es → IsPermutation (without R k es ++ (k, v) ∷ []) (put R k v es)
    put_entry k v [] up = IsPermutation-refl ((k, v) ∷ [])
    put_entry k v (e ∷ es) up =
        elim (R k e.0) as (λ r. R k e.0 ≡ r → IsPermutation (cond (not (is_eq r)) (e ∷ without R k es) (without R k es) ++ (k, v) ∷ []) (by_order r ((k, v) ∷ e ∷ es) ((e.0, v) ∷ es) (e ∷ put R k v es))) [
          | Less ↦ λ t.
              let all : without R k es ≡ es = without_below e.0 k es t (first _ _ up) in
              subst (λ ys. IsPermutation ((e ∷ ys) ++ (k, v) ∷ []) ((k, v) ∷ e ∷ es)) (sym all) (IsPermutation-to_front (e ∷ es) (k, v))
          | Equal ↦ λ t.
              let all : without R k es ≡ es = without_above o e.0 k es t (first _ _ up) in
              let key : k ≡ e.0 = exact k e.0 t in
              subst (λ ys. IsPermutation (ys ++ (k, v) ∷ []) ((e.0, v) ∷ es)) (sym all)
              (subst (λ z. IsPermutation (es ++ (k, v) ∷ []) ((z, v) ∷ es)) key (IsPermutation-to_front es (k, v)))
          | Greater ↦ λ t. IsPermutation-cons e (without R k es ++ (k, v) ∷ []) (put R k v es) (put_entry k v es (second _ _ up))
        ] refl

    -- a key that is given a value: its entry besides those of the others
    pub inserted_entries : (m : FinMap R X) (k : K) (v : X) → IsPermutation (without R k (entries m) ++ (k, v) ∷ []) (entries (insert m k v))
    inserted_entries m k v = subst (IsPermutation (without R k (entries m) ++ (k, v) ∷ [])) (sym (entries-insert o m k v)) (put_entry k v (entries m) (entries_sorted m))

    -- a key that is taken away: the entries of the others
    pub removed_entries : (m : FinMap R X) (k : K) → without R k (entries m) ≡ entries (remove m k)
    removed_entries m k =
        let up = entries_sorted m in
        let back : from_sorted {R = R} (entries m) ≡ m = same_entries_map _ _ (entries-from_sorted R (entries m) up) in
        sym (entries-from_sorted R (without R k (entries m)) (ascending_without o exact (entries m) k up))
        ∙ ap entries (without_sorted o exact (entries m) k up ∙ ap (λ n. remove n k) back)

    -- a new key
    pub new_entries : (m : FinMap R X) (k : K) (v : X) → get m k ≡ None → IsPermutation (entries m ++ (k, v) ∷ []) (entries (insert m k v))
    new_entries m k v none =
        let all : without R k (entries m) ≡ entries m = removed_entries m k ∙ ap entries (remove_none o exact m k none) in
        subst (λ es. IsPermutation (es ++ (k, v) ∷ []) (entries (insert m k v))) all (inserted_entries m k v)

    -- Rows that stand for the entries, and a test of a row that says whether it is that of a key.
    module _ {W : Type 0} (f : K × X → W) where
      pub new_row : (m : FinMap R X) (k : K) (v : X) → get m k ≡ None → IsPermutation (map f (entries m) ++ f (k, v) ∷ []) (map f (entries (insert m k v)))
      new_row m k v none =
          subst (λ ws. IsPermutation ws (map f (entries (insert m k v)))) (map-append f (entries m) ((k, v) ∷ []))
          (IsPermutation-map f (entries m ++ (k, v) ∷ []) (entries (insert m k v)) (new_entries m k v none))

      module _ (k : K) (is_other : W → Bool) (tells : (e : K × X) → is_other (f e) ≡ not (eq_by_cmp R k e.0)) where
        pub dropped_row : (m : FinMap R X) → filter is_other (map f (entries m)) ≡ map f (entries (remove m k))
        dropped_row m = filter_mapped is_other f (λ e. not (eq_by_cmp R k e.0)) tells (entries m) ∙ ap (map f) (removed_entries m k)

        pub put_row : (m : FinMap R X) (v : X) → IsPermutation (filter is_other (map f (entries m)) ++ f (k, v) ∷ []) (map f (entries (insert m k v)))
        put_row m v =
            subst (λ ws. IsPermutation ws (map f (entries (insert m k v))))
            (map-append f (without R k (entries m)) ((k, v) ∷ []) ∙ ap (λ ws. ws ++ f (k, v) ∷ []) (sym (filter_mapped is_other f (λ e. not (eq_by_cmp R k e.0)) tells (entries m))))
            (IsPermutation-map f (without R k (entries m) ++ (k, v) ∷ []) (entries (insert m k v)) (inserted_entries m k v))
