-- The entries of a map are what is found in it.
use Rattle.std.proofs.Common.{◌≡◌, ◌↔◌, inl, inr, Bool, cond, List, [], ◌∷◌, Some, None, refl, sym, ap, ◌∙◌, subst}
use mathlib.Core.Bool.{false≢true}
use Rattle.std.specs.Prelude.{T, IsTrue, IsSome}
use Rattle.std.specs.Cmp.{IsTotalOrder}
use Rattle.std.specs.Ordering.{is_eq}
use Rattle.std.specs.declared.cmp.Ordering.{Ordering}
use Rattle.std.specs.declared.cmp.Ordering.TheVariants.{Less, Equal, Greater}
use Rattle.std.specs.List.{Contains}
use Rattle.std.specs.FinMap.{FinMap, IsAntisymmetric, find, get, entries, entries_sorted, get-entries, is_sorted}
use Rattle.std.specs.FinMap.Entries.{below_all}
use Rattle.std.proofs.lemmas.Cmp.{tied_itself}
use Rattle.frame_core.proofs.Ascending.{first, second, find_above}
use Rattle.trace_core.proofs.Members.{contains_here, contains_there, contains_cases, contains_none}

-- an entry of a map is found by its key
module _ {K X : Type 0} {R : K → K → Ordering} (o : IsTotalOrder R) where
  found_among : (es : List (K × X)) → T (is_sorted R es) → (k : K) (v : X) → Contains es (k, v) → find R k es ≡ Some v
  found_among [] up k v at = absurd (contains_none (k, v) at)
  found_among (e ∷ es) up k v at = elim (contains_cases e (k, v) es at) as (λ _. find R k (e ∷ es) ≡ Some v) [
    | inl is ↦
        let tie : R k e.0 ≡ Equal = subst (λ (z : K × X). R k z.0 ≡ Equal) (sym is) (tied_itself o k) in
        ap (λ r. cond (is_eq r) (Some e.1) (find R k es)) tie ∙ ap (λ (z : K × X). Some z.1) is
    | inr later ↦
        let further = found_among es (second (below_all R e.0 es) (is_sorted R es) up) k v later in
        elim (R k e.0) as (λ r. R k e.0 ≡ r → find R k (e ∷ es) ≡ Some v) [
          | Less ↦ λ apart. ap (λ r. cond (is_eq r) (Some e.1) (find R k es)) apart ∙ further
          | Equal ↦ λ tie. let twice : None ≡ Some v = sym (find_above o e.0 k es tie (first (below_all R e.0 es) (is_sorted R es) up)) ∙ further in cc
          | Greater ↦ λ apart. ap (λ r. cond (is_eq r) (Some e.1) (find R k es)) apart ∙ further
        ] refl
  ]

  pub entry_found : (m : FinMap R X) (k : K) (v : X) → Contains (entries m) (k, v) → get m k ≡ Some v
  entry_found m k v at = get-entries m k ∙ found_among (entries m) (entries_sorted m) k v at

  module _ (exact : IsAntisymmetric R) where
    pub found_there : (es : List (K × X)) (k : K) (v : X) → find R k es ≡ Some v → Contains es (k, v)
    found_there [] k v is = cc
    found_there (e ∷ es) k v is = elim (R k e.0) as (λ r. R k e.0 ≡ r → cond (is_eq r) (Some e.1) (find R k es) ≡ Some v → Contains (e ∷ es) (k, v)) [
      | Less ↦ λ _ h. contains_there e (k, v) es (found_there es k v h)
      | Equal ↦ λ tie h.
          let value : e.1 ≡ v = cc in
          let same : e ≡ (k, v) = (λ i. (sym (exact k e.0 tie) i, value i)) in
          subst (Contains (e ∷ es)) same (contains_here e es)
      | Greater ↦ λ _ h. contains_there e (k, v) es (found_there es k v h)
    ] refl is

    pub entry_there : (m : FinMap R X) (k : K) (v : X) → get m k ≡ Some v → Contains (entries m) (k, v)
    entry_there m k v is = found_there (entries m) k v (sym (get-entries m k) ∙ is)

    -- what holds of each entry holds of all that is found
    pub each_found : (m : FinMap R X) (es : List (K × X)) → es ≡ entries m → (P : K → X → Type 0) (b : Bool)
        → (IsTrue b ↔ ((k : K) (v : X) → Contains es (k, v) → P k v)) → IsTrue b ↔ ((k : K) (v : X) → get m k ≡ Some v → P k v)
    each_found m es same P b decides = (
      λ h k v is. decides.0 h k v (subst (λ xs. Contains xs (k, v)) (sym same) (entry_there m k v is)),
      λ all. decides.1 (λ k v at. all k v (entry_found m k v (subst (λ xs. Contains xs (k, v)) same at))),
    )

    -- the same of the keys alone
    pub each_key_found : (m : FinMap R X) (es : List (K × X)) → es ≡ entries m → (P : K → Type 0) (b : Bool)
        → (IsTrue b ↔ ((k : K) (v : X) → Contains es (k, v) → P k)) → IsTrue b ↔ ((k : K) → IsSome (get m k) → P k)
    each_key_found m es same P b decides =
        let found = each_found m es same (λ k _. P k) b decides in (
          λ h k some. elim (get m k) as (λ o. get m k ≡ o → IsSome o → P k) [
            | None ↦ λ _ some. absurd (false≢true some)
            | Some v ↦ λ is _. found.0 h k v is
          ] refl some,
          λ all. found.1 (λ k v is. all k (subst IsSome (sym is) refl)),
        )
