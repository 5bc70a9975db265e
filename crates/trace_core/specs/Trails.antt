-- A chain of related pairs between two pairs, and the steps of a search that leave one to each pair.
use Rattle.std.specs.Prelude.{◌≡◌, ◌≢◌, ⊤, ℕ, zero, suc, ◌<◌, ◌≤◌, List, [], ◌∷◌, ◌++◌, Option, None, Some, map, length, get_or, slice_get, All, AllPairs, Contains}
use Rattle.std.specs.BTreeMap.{BTreeMap, get}
use Rattle.trace_core.specs.declared.pairs.Pair.{Pair}
use Rattle.trace_core.specs.declared.steps.Step.{Step}
use Rattle.trace_core.specs.Chains.{Related}
use Rattle.trace_core.specs.Pairs.{pair_cmp}
use Rattle.trace_core.specs.Relations.{IsChain, last_of, Chain, Reaches}
use Rattle.trace_core.specs.Sites.{SiteEvents}

-- the pairs begin with the root and end with the target, and each is related to the next
abbrev pub IsTrail : (Pair → Pair → Type 0) → Pair → Pair → List Pair → Type 0
IsTrail R root target pairs = (rest : List Pair) × (pairs ≡ root ∷ rest) × IsChain R (root ∷ rest) × (last_of root rest ≡ target)

-- no pair comes twice
abbrev pub HaveNoRepeats : List Pair → Type 0
HaveNoRepeats pairs = AllPairs (λ p q. p ≢ q) pairs

-- no chain from the root to the target has fewer pairs
abbrev pub IsShortest : (Pair → Pair → Type 0) → Pair → Pair → List Pair → Type 0
IsShortest R root target pairs = (n : ℕ) → Chain R root n target → length pairs ≤ suc n

-- a chain of the relation from the root to the pair, without repeats and with as few pairs as any; none exactly where
-- no chain leads there
abbrev pub TellsTrailBy : (Pair → Pair → Type 0) → Pair → Pair → Option (List Pair) → Type 0
TellsTrailBy R root p None = Reaches R root p → ⊥
TellsTrailBy R root p (Some trail) = IsTrail R root p trail × HaveNoRepeats trail × IsShortest R root p trail

-- so for the related pairs of several sites
abbrev pub TellsTrail : List SiteEvents → Pair → Pair → Option (List Pair) → Type 0
TellsTrail sites root p trail = TellsTrailBy (Related sites) root p trail

-- this step stands at the place
abbrev pub IsAt : List Step → ℕ → Step → Type 0
IsAt steps place step = (place < length steps) × (get_or steps place step ≡ step)

-- the pairs of steps
abbrev pub pairs_of : List Step → List Pair
pairs_of steps = map (λ s. s.pair) steps

-- the pair's step stands at the place; it has none where there is no place
abbrev pub IsPlaceOf : List Step → Pair → Option ℕ → Type 0
IsPlaceOf steps q None = Contains (pairs_of steps) q → ⊥
IsPlaceOf steps q (Some k) = (s : Step) × IsAt steps k s × (s.pair ≡ q)

-- the map has the place of each step's pair, and no other
abbrev pub ArePlaces : BTreeMap Pair ℕ → List Step → Type 0
ArePlaces places steps = (q : Pair) → IsPlaceOf steps q (get pair_cmp places q)

-- each step but the first has an earlier one before it
abbrev pub GoBack : List Step → Type 0
GoBack steps = (place : ℕ) (step : Step) → IsAt steps place step → place ≢ 0 → step.from < place

-- ---- the tree that the steps leave

-- the trail to each step: that to the step before it, and then its own pair; the first one begins it
abbrev pub trails_onto : List (List Pair) → List Step → List (List Pair)
trails_onto trails [] = trails
trails_onto trails (s ∷ steps) = trails_onto (trails ++ (get_or trails s.from [] ++ s.pair ∷ []) ∷ []) steps

abbrev pub trail_at : List Step → ℕ → List Pair
trail_at steps place = get_or (trails_onto [] steps) place []

-- a step stands at the place; nothing is asked where there is none
abbrev pub IsEnd : List Step → Option ℕ → Type 0
IsEnd steps None = ⊤
IsEnd steps (Some place) = place < length steps

-- the one before the last of so many
abbrev pub before_end : List Pair → ℕ → Option Pair
before_end trail zero = None
before_end trail (suc zero) = None
before_end trail (suc (suc n)) = slice_get trail n

-- the pair before the last one of a trail, where there is one
abbrev pub before_last : List Pair → Option Pair
before_last trail = before_end trail (length trail)

-- ---- the search

-- the targets are noted as steps from a place, those that have none
pub record NotesSteps (old new : List Step) (from : ℕ) (targets : List Pair) : Type 0 where
  pub added : List Step
  pub appended : new ≡ old ++ added
  pub from_place : All (λ s. (s.from ≡ from) × Contains targets s.pair) added
  pub noted : (q : Pair) → Contains targets q → Contains (pairs_of new) q
  pub apart : HaveNoRepeats (pairs_of old) → HaveNoRepeats (pairs_of new)

-- a step has the pair, and was found from this place or an earlier one
abbrev pub IsNear : List Step → ℕ → Pair → Type 0
IsNear steps k q = (j : ℕ) × (t : Step) × IsAt steps j t × (t.pair ≡ q) × (t.from ≤ k)

-- the steps of a search from the root, nearest first, that has followed R from each step before the place
pub record AreSteps (R : Pair → Pair → Type 0) (root : Pair) (place : ℕ) (steps : List Step) : Type 0 where
  pub begun : (s : Step) → IsAt steps 0 s → s.pair ≡ root
  pub some : 0 < length steps
  pub back : GoBack steps
  pub linked : (k : ℕ) (s t : Step) → IsAt steps k t → k ≢ 0 → IsAt steps t.from s → R s.pair t.pair
  pub apart : HaveNoRepeats (pairs_of steps)
  pub within : place ≤ length steps
  pub mono : (j k : ℕ) (s t : Step) → IsAt steps j s → IsAt steps k t → j ≤ k → s.from ≤ t.from
  pub behind : (k : ℕ) (s : Step) → IsAt steps k s → s.from ≤ place
  pub near : (k : ℕ) (s : Step) → IsAt steps k s → k < place → (q : Pair) → R s.pair q → IsNear steps k q
