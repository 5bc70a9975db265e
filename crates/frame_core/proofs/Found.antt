-- The entries of a map that pass a test are those that are found and pass.
use Rattle.std.proofs.Common.{◌≡◌, Bool, true, false, cond, ◌||◌, List, [], ◌∷◌, Some, None, refl, sym, ap, ◌∙◌}
use Rattle.std.specs.Prelude.{T}
use Rattle.std.specs.Cmp.{IsTotalOrder}
use Rattle.std.specs.Ordering.{is_eq}
use Rattle.std.specs.declared.cmp.Ordering.{Ordering}
use Rattle.std.specs.declared.cmp.Ordering.TheVariants.{Less, Equal, Greater}
use Rattle.std.specs.List.{list_any}
use Rattle.std.specs.FinMap.{FinMap, IsAntisymmetric, find, get, entries, entries_sorted, get-entries, is_sorted}
use Rattle.std.specs.FinMap.Entries.{below_all}
use Rattle.std.proofs.lemmas.Cmp.{tied_itself}
use Rattle.frame_core.proofs.Ascending.{first, second, find_above}

-- a key that is found in a map, with a value so that both pass
pub record IsFound {K X : Type 0} {R : K → K → Ordering} (t : K × X → Bool) (m : FinMap R X) : Type 0 where
  pub key : K
  pub value : X
  pub found : get m key ≡ Some value
  pub passes : t (key, value) ≡ true

module _ {K X : Type 0} {R : K → K → Ordering} (o : IsTotalOrder R) where
  module _ (t : K × X → Bool) where
    in_entries : (es : List (K × X)) → T (is_sorted R es) → list_any t es ≡ true → (k : K) × (v : X) × (find R k es ≡ Some v) × (t (k, v) ≡ true)
    in_entries [] up some = cc
    in_entries (e ∷ es) up some =
        elim (t e) as (λ b. t e ≡ b → (b || list_any t es) ≡ true → (k : K) × (v : X) × (find R k (e ∷ es) ≡ Some v) × (t (k, v) ≡ true)) [
          | true ↦ λ passes h. (e.0, e.1, ap (λ r. cond (is_eq r) (Some e.1) (find R e.0 es)) (tied_itself o e.0), passes)
          | false ↦ λ fails h.
              let later = in_entries es (second (below_all R e.0 es) (is_sorted R es) up) h in
              elim (R later.0 e.0) as (λ r. R later.0 e.0 ≡ r → (k : K) × (v : X) × (find R k (e ∷ es) ≡ Some v) × (t (k, v) ≡ true)) [
                | Less ↦ λ apart. (later.0, later.1, ap (λ r. cond (is_eq r) (Some e.1) (find R later.0 es)) apart ∙ later.2, later.3)
                | Equal ↦ λ tie. let twice : None ≡ Some later.1 = sym (find_above o e.0 later.0 es tie (first (below_all R e.0 es) (is_sorted R es) up)) ∙ later.2 in cc
                | Greater ↦ λ apart. (later.0, later.1, ap (λ r. cond (is_eq r) (Some e.1) (find R later.0 es)) apart ∙ later.2, later.3)
              ] refl
        ] refl some

    pub is_found : (m : FinMap R X) → list_any t (entries m) ≡ true → IsFound t m
    is_found m some =
        let one = in_entries (entries m) (entries_sorted m) some in
        record { key = one.0; value = one.1; found = get-entries m one.0 ∙ one.2; passes = one.3 }

    in_list : IsAntisymmetric R → (es : List (K × X)) (k : K) (v : X) → find R k es ≡ Some v → t (k, v) ≡ true → list_any t es ≡ true
    in_list exact [] k v is passes = cc
    in_list exact (e ∷ es) k v is passes =
        elim (R k e.0) as (λ r. R k e.0 ≡ r → cond (is_eq r) (Some e.1) (find R k es) ≡ Some v → (t e || list_any t es) ≡ true) [
          | Less ↦ λ apart h. or_true (t e) (list_any t es) (in_list exact es k v h passes)
          | Equal ↦ λ tie h. let same : e.1 ≡ v = cc in ap (λ (p : K × X). t p || list_any t es) (λ i. (sym (exact k e.0 tie) i, same i)) ∙ ap (λ b. b || list_any t es) passes
          | Greater ↦ λ apart h. or_true (t e) (list_any t es) (in_list exact es k v h passes)
        ] refl is
      where
        or_true : (a b : Bool) → b ≡ true → (a || b) ≡ true
        or_true true b h = refl
        or_true false b h = h

    pub found_in : IsAntisymmetric R → (m : FinMap R X) → IsFound t m → list_any t (entries m) ≡ true
    found_in exact m one = in_list exact (entries m) one.key one.value (sym (get-entries m one.key) ∙ one.found) one.passes
