-- Finite maps after a change at one key, and another one there.
use Rattle.std.proofs.Common.{◌≡◌, inl, inr, Some, sym, subst, ◌∙◌}
use Rattle.std.specs.Cmp.{IsTotalOrder}
use Rattle.std.specs.FinMap.{FinMap, IsAntisymmetric, get, insert, remove, same_map}
use Rattle.std.specs.declared.cmp.Ordering.{Ordering}
use Rattle.frame_core.proofs.Lookups.{one_key, get_here, get_apart, get_gone, get_left}

module _ {K X : Type 0} {R : K → K → Ordering} (o : IsTotalOrder R) (exact : IsAntisymmetric R) where
  -- to give a key the value that it has changes nothing
  pub insert_same : (m : FinMap R X) (k : K) (v : X) → get m k ≡ Some v → insert m k v ≡ m
  insert_same m k v has = same_map o exact _ _ (λ q. elim (one_key o exact q k) [
    | inl same ↦ subst (λ z. get (insert m k v) z ≡ get m z) (sym same) (get_here o exact m k v ∙ sym has)
    | inr ne ↦ get_apart o exact m k v q ne
  ])

  -- of two values the last one stays
  pub insert_twice : (m : FinMap R X) (k : K) (v w : X) → insert (insert m k v) k w ≡ insert m k w
  insert_twice m k v w = same_map o exact _ _ (λ q. elim (one_key o exact q k) [
    | inl same ↦ subst (λ z. get (insert (insert m k v) k w) z ≡ get (insert m k w) z) (sym same) (get_here o exact (insert m k v) k w ∙ sym (get_here o exact m k w))
    | inr ne ↦ get_apart o exact (insert m k v) k w q ne ∙ get_apart o exact m k v q ne ∙ sym (get_apart o exact m k w q ne)
  ])

  -- a new value goes with its key
  pub remove_inserted : (m : FinMap R X) (k : K) (v : X) → remove (insert m k v) k ≡ remove m k
  remove_inserted m k v = same_map o exact _ _ (λ q. elim (one_key o exact q k) [
    | inl same ↦ subst (λ z. get (remove (insert m k v) k) z ≡ get (remove m k) z) (sym same) (get_gone o exact (insert m k v) k ∙ sym (get_gone o exact m k))
    | inr ne ↦ get_left o exact (insert m k v) k q ne ∙ get_apart o exact m k v q ne ∙ sym (get_left o exact m k q ne)
  ])
