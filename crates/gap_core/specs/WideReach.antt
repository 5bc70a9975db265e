-- How a search goes on where items are missed.
use Rattle.std.specs.Prelude.{◌≡◌, ◌↔◌, ◌⊎◌, ◌≤◌, ◌+◌, Bool, true, false, cond, List, ◌++◌, ◌∷◌, [], Contains, length}
use Rattle.std.specs.BTreeSet.{BTreeSet}
use Rattle.trace_core.specs.declared.pairs.Pair.{Pair}
use Rattle.trace_core.specs.Pairs.{pair_cmp}
use Rattle.trace_core.specs.Chains.{Related}
use Rattle.trace_core.specs.Relations.{ReachedFrom}
use Rattle.trace_core.specs.Searches.{IsFound}
use Rattle.trace_core.specs.Sites.{SiteEvents}
use Rattle.gap_core.specs.Adding.{AddsTo}
use Rattle.gap_core.specs.declared.missed_steps.MissedStep.{MissedStep}

-- where a step leads
abbrev pub target : MissedStep → Pair
target m = record { site = m.to; item = m.from.item }

-- one of the steps leads from what is reached to the pair
abbrev pub IsTarget : BTreeSet Pair → List MissedStep → Pair → Type 0
IsTarget reached steps p = (m : MissedStep) × Contains steps m × IsFound pair_cmp reached m.from × (target m ≡ p)

-- a step was followed, or it is left
abbrev pub FollowsOne : BTreeSet Pair → MissedStep → List MissedStep → List Pair → List MissedStep → List Pair → Bool → Type 0
FollowsOne reached m left roots left' roots' true = IsFound pair_cmp reached m.from × (left' ≡ left) × (roots' ≡ roots ++ target m ∷ [])
FollowsOne reached m left roots left' roots' false = (IsFound pair_cmp reached m.from → ⊥) × (left' ≡ left ++ m ∷ []) × (roots' ≡ roots)

-- Where steps lead from what is reached are roots now, and the other steps are left; and if there was one, fewer are.
pub record Follows (reached : BTreeSet Pair) (steps : List MissedStep) (roots : List Pair) (left : List MissedStep) (roots' : List Pair) (more : Bool) : Type 0 where
  pub added : (p : Pair) → Contains roots' p ↔ (Contains roots p ⊎ IsTarget reached steps p)
  pub rest : (m : MissedStep) → Contains left m ↔ (Contains steps m × (IsFound pair_cmp reached m.from → ⊥))
  pub fewer : length left + cond more 1 0 ≤ length steps
  pub none : more ≡ false → (m : MissedStep) → Contains steps m → IsFound pair_cmp reached m.from → ⊥

-- What the roots reach by the sites' own packings was added to what was reached, and where steps lead from there are roots now.
pub record GoesOn (sites : List SiteEvents) (old : BTreeSet Pair) (steps : List MissedStep) (roots : List Pair) (new : BTreeSet Pair) (left : List MissedStep) (roots' : List Pair) (more : Bool) : Type 0 where
  pub found : AddsTo (IsFound pair_cmp old) (IsFound pair_cmp new) (ReachedFrom (Related sites) roots)
  pub follows : Follows new steps [] left roots' more
