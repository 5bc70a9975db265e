-- What a search for what a relation reaches has found.
use Rattle.std.specs.Prelude.{◌≤◌, ◌+◌, ◌-◌, ◌^◌, ℕ, List, Contains, IsTrue, length}
use Rattle.std.specs.declared.cmp.Ordering.{Ordering}
use mathlib.Core.Logic.{◌⊎◌}
use Rattle.std.specs.BTreeSet.{BTreeSet, contains}

abbrev pub IsFound : {K : Type 0} → (K → K → Ordering) → BTreeSet K → K → Type 0
IsFound cmp found node = IsTrue (contains cmp found node)

-- nodes that R has, and each that isn't among them was given by what was seen before; what is given by what is seen now is among them
pub record AreUnseen {K S : Type 0} (R : K → Type 0) (G : S → K → Type 0) (seen seen' : S) (nodes : List K) : Type 0 where
  pub sound : (n : K) → Contains nodes n → R n
  pub complete : (n : K) → R n → Contains nodes n ⊎ G seen n
  pub given : (n : K) → G seen' n → G seen n ⊎ Contains nodes n

-- each node was followed, by what is seen at the end; looks are at least all nodes, and all outputs but those that are
-- left then, where the count didn't end at 2^64 - 1
pub record LooksAtAll {N S : Type 0} (Followed : S → N → Type 0) (outputs : ℕ) (left : S → ℕ) (nodes : List N) (begun looks : ℕ) : Type 0 where
  pub seen : S
  pub followed : (n : N) → Contains nodes n → Followed seen n
  pub counted : (begun + length nodes + outputs ≤ looks + left seen) ⊎ (2 ^ 64 - 1 ≤ looks)
