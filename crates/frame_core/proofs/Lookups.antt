-- What is found in a finite map after a change at a key: at the key, and elsewhere.
use Rattle.std.proofs.Common.{◌≡◌, ◌≢◌, ◌⊎◌, inl, inr, false, cond, Some, None, refl, ap, subst, ◌∙◌}
use Rattle.std.specs.Cmp.{IsTotalOrder}
use Rattle.std.specs.Ordering.{is_eq, eq_by_cmp}
use Rattle.std.specs.declared.cmp.Ordering.{Ordering}
use Rattle.std.specs.declared.cmp.Ordering.TheVariants.{Less, Equal, Greater}
use Rattle.std.specs.FinMap.{FinMap, IsAntisymmetric, get, insert, remove, get-insert, get-remove}
use Rattle.std.proofs.lemmas.Cmp.{tied_itself}

-- two keys are one, or they are not
pub one_key : {K : Type 0} {R : K → K → Ordering} (o : IsTotalOrder R) (exact : IsAntisymmetric R) (q k : K) → (q ≡ k) ⊎ (q ≢ k)
one_key {R = R} o exact q k = elim (R q k) as (λ r. R q k ≡ r → (q ≡ k) ⊎ (q ≢ k)) [
  | Less ↦ λ e. inr (λ same. let tie : R q k ≡ Equal = subst (λ z. R q z ≡ Equal) same (tied_itself o q) in cc)
  | Equal ↦ λ e. inl (exact q k e)
  | Greater ↦ λ e. inr (λ same. let tie : R q k ≡ Equal = subst (λ z. R q z ≡ Equal) same (tied_itself o q) in cc)
] refl

apart : {K : Type 0} {R : K → K → Ordering} (exact : IsAntisymmetric R) (q k : K) → q ≢ k → eq_by_cmp R q k ≡ false
apart {R = R} exact q k ne = elim (R q k) as (λ r. R q k ≡ r → is_eq r ≡ false) [
  | Less ↦ λ e. refl
  | Equal ↦ λ e. absurd (ne (exact q k e))
  | Greater ↦ λ e. refl
] refl

module _ {K X : Type 0} {R : K → K → Ordering} (o : IsTotalOrder R) (exact : IsAntisymmetric R) where
  -- at its key a new value is found
  pub get_here : (m : FinMap R X) (k : K) (v : X) → get (insert m k v) k ≡ Some v
  get_here m k v = get-insert o m k v k ∙ ap (λ r. cond (is_eq r) (Some v) (get m k)) (tied_itself o k)

  -- elsewhere what was found before
  pub get_apart : (m : FinMap R X) (k : K) (v : X) (q : K) → q ≢ k → get (insert m k v) q ≡ get m q
  get_apart m k v q ne = get-insert o m k v q ∙ ap (λ b. cond b (Some v) (get m q)) (apart exact q k ne)

  -- what is removed is gone
  pub get_gone : (m : FinMap R X) (k : K) → get (remove m k) k ≡ None
  get_gone m k = get-remove o m k k ∙ ap (λ r. cond (is_eq r) None (get m k)) (tied_itself o k)

  -- and the rest is left
  pub get_left : (m : FinMap R X) (k q : K) → q ≢ k → get (remove m k) q ≡ get m q
  get_left m k q ne = get-remove o m k q ∙ ap (λ b. cond b None (get m q)) (apart exact q k ne)
