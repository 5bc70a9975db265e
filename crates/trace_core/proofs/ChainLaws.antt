-- Chains of a relation grow at their end.
use Rattle.std.proofs.Common.{◌≡◌, ◌↔◌, ℕ, zero, suc, List, [], ◌∷◌, ◌++◌, reverse, refl, sym, ap, ◌∙◌, subst}
use Rattle.std.specs.List.{Contains}
use Rattle.std.proofs.lemmas.List.{reverse-append}
use Rattle.trace_core.specs.Relations.{IsChain, Converse, last_of, Reaches, Chain, ReachedFrom}

module _ {X : Type 0} (R : X → X → Type 0) where
  chain_push : (x : X) (rest : List X) (z : X) → IsChain R (x ∷ rest) → R (last_of x rest) z → IsChain R (x ∷ (rest ++ z ∷ []))
  chain_push x [] z c r = (r, tt)
  chain_push x (y ∷ rest) z c r = (c.0, chain_push y rest z c.1 r)

  last_push : (x : X) (rest : List X) (z : X) → last_of x (rest ++ z ∷ []) ≡ z
  last_push x [] z = refl
  last_push x (y ∷ rest) z = last_push y rest z

  pub reaches_itself : (x : X) → Reaches R x x
  reaches_itself x = ([], tt, refl)

  pub reaches_step : (x y z : X) → Reaches R x y → R y z → Reaches R x z
  reaches_step x y z (rest, chain, ends) r = (rest ++ z ∷ [], chain_push x rest z chain (subst (λ w. R w z) (sym ends) r), last_push x rest z)

  -- what holds of x, and of all that what it holds of is related to, holds of all that x reaches
  pub along_chain : (P : X → Type 0) → ((y z : X) → P y → R y z → P z) → (x : X) (rest : List X) → IsChain R (x ∷ rest) → P x → P (last_of x rest)
  along_chain P closed x [] chain h = h
  along_chain P closed x (y ∷ rest) chain h = along_chain P closed y rest chain.1 (closed x y h chain.0)

  pub reached_holds : (P : X → Type 0) → ((y z : X) → P y → R y z → P z) → (x y : X) → Reaches R x y → P x → P y
  reached_holds P closed x y (rest, chain, ends) h = subst P ends (along_chain P closed x rest chain h)

  pub reached_step : (starts : List X) (y z : X) → ReachedFrom R starts y → R y z → ReachedFrom R starts z
  reached_step starts y z (x, at, reaches) r = (x, at, reaches_step x y z reaches r)

  pub reached_start : (starts : List X) (x : X) → Contains starts x → ReachedFrom R starts x
  reached_start starts x at = (x, at, reaches_itself x)

  -- a chain with one more step at its front
  pub chain_front : (x y z : X) (n : ℕ) → R x y → Chain R y n z → Chain R x (suc n) z
  chain_front x y z zero r e = (x, refl, subst (R x) e r)
  chain_front x y z (suc n) r (w, chain, last) = (w, chain_front x y w n r chain, last)

  pub chain-from_list : (x : X) (rest : List X) → IsChain R (x ∷ rest) → (n : ℕ) × Chain R x n (last_of x rest)
  chain-from_list x [] chain = (0, refl)
  chain-from_list x (y ∷ rest) chain = let tail = chain-from_list y rest chain.1 in (suc tail.0, chain_front x y (last_of y rest) tail.0 chain.0 tail.1)

  pub chain-from_reaches : (x y : X) → Reaches R x y → (n : ℕ) × Chain R x n y
  chain-from_reaches x y (rest, chain, ends) = subst (λ z. (n : ℕ) × Chain R x n z) ends (chain-from_list x rest chain)

  pub reaches-from_chain : (x y : X) (n : ℕ) → Chain R x n y → Reaches R x y
  reaches-from_chain x y zero e = subst (Reaches R x) e (reaches_itself x)
  reaches-from_chain x y (suc n) (z, chain, last) = reaches_step x z y (reaches-from_chain x z n chain) last

-- a chain of the converse, read from its end
module _ {X : Type 0} (R : X → X → Type 0) where
  -- the list is a chain from y to x
  abbrev pub LeadsBack : X → X → List X → Type 0
  LeadsBack y x list = (rest : List X) × (list ≡ y ∷ rest) × IsChain R (y ∷ rest) × (last_of y rest ≡ x)

  pub chain_reversed : (x : X) (rest : List X) → IsChain (Converse R) (x ∷ rest) → LeadsBack (last_of x rest) x (reverse (x ∷ rest))
  chain_reversed x [] chain = ([], refl, tt, refl)
  chain_reversed x (y ∷ rest) chain =
      let (more, are, back, ends) = chain_reversed y rest chain.1 in (
        more ++ x ∷ [],
        reverse-append (x ∷ []) (y ∷ rest) ∙ ap (λ xs. xs ++ x ∷ []) are,
        chain_push R (last_of y rest) more x back (subst (λ w. R w x) (sym ends) chain.0),
        last_push R (last_of y rest) more x,
      )

  pub reaches_back : (x y : X) → Reaches (Converse R) x y → Reaches R y x
  reaches_back x y (rest, chain, ends) = let (more, are, back, starts) = chain_reversed x rest chain in
      subst (λ z. Reaches R z x) ends (more, back, starts)

  -- a chain of so many steps has as many back
  pub chain_back : (x y : X) (n : ℕ) → Chain (Converse R) x n y → Chain R y n x
  chain_back x y zero same = sym same
  chain_back x y (suc n) (z, chain, step) = chain_front R y z x n step (chain_back x z n chain)

-- a relation is the converse of its converse
module _ {X : Type 0} (R : X → X → Type 0) where
  pub reach_converse : (x y : X) → Reaches (Converse R) x y ↔ Reaches R y x
  reach_converse x y = (reaches_back R x y, reaches_back (Converse R) y x)

  pub chain_converse : (x y : X) (n : ℕ) → Chain R y n x → Chain (Converse R) x n y
  chain_converse x y n = chain_back (Converse R) y x n

-- a chain is one of any wider relation
module _ {X : Type 0} (R S : X → X → Type 0) (wider : (x y : X) → R x y → S x y) where
  chain_widens : (x : X) (rest : List X) → IsChain R (x ∷ rest) → IsChain S (x ∷ rest)
  chain_widens x [] chain = tt
  chain_widens x (y ∷ rest) chain = (wider x y chain.0, chain_widens y rest chain.1)

  pub reach_widens : (x y : X) → Reaches R x y → Reaches S x y
  reach_widens x y (rest, chain, ends) = (rest, chain_widens x rest chain, ends)
