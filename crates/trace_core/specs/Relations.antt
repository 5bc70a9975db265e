-- Chains of any relation.
use Rattle.std.specs.Prelude.{◌≡◌, ℕ, zero, suc, ⊤, List, [], ◌∷◌, Contains}

-- each one is related to the next
abbrev pub IsChain : {X : Type 0} → (X → X → Type 0) → List X → Type 0
IsChain R [] = ⊤
IsChain R (x ∷ []) = ⊤
IsChain R (x ∷ y ∷ rest) = R x y × IsChain R (y ∷ rest)

-- the relation that holds the other way round
abbrev pub Converse : {X : Type 0} → (X → X → Type 0) → X → X → Type 0
Converse R x y = R y x

-- the last of a list that begins with x
abbrev pub last_of : {X : Type 0} → X → List X → X
last_of x [] = x
last_of x (y ∷ rest) = last_of y rest

-- a chain begins with x and ends with y
abbrev pub Reaches : {X : Type 0} → (X → X → Type 0) → X → X → Type 0
Reaches {X} R x y = (rest : List X) × IsChain R (x ∷ rest) × (last_of x rest ≡ y)

-- a chain of n steps from x to y, which grows at its end
abbrev pub Chain : {X : Type 0} → (X → X → Type 0) → X → ℕ → X → Type 0
Chain R x zero y = x ≡ y
Chain {X} R x (suc n) y = (z : X) × Chain R x n z × R z y

-- a chain leads from one of the starts to y
abbrev pub ReachedFrom : {X : Type 0} → (X → X → Type 0) → List X → X → Type 0
ReachedFrom {X} R starts y = (x : X) × Contains starts x × Reaches R x y
