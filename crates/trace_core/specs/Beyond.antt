-- The spread of an item past what is known of it: past items at which a search stops, and past transformations that it has seen.
use Rattle.std.specs.Prelude.{ℕ, false, ◌≤◌, List, [], ◌∷◌, length, take, Contains}
use Rattle.std.specs.BTreeSet.{BTreeSet}
use Rattle.std.specs.Cmp.Lexicographic.{slice_cmp}
use Rattle.std.specs.Ordering.{nat_cmp}
use mathlib.Core.Logic.{◌⊎◌}
use Rattle.trace_core.specs.declared.groups.Group.{Group}
use Rattle.trace_core.specs.declared.nodes.Node.{Node}
use Rattle.trace_core.specs.declared.pairs.Pair.{Pair}
use Rattle.trace_core.specs.Groups.{IsGiven, IsSeen, GoesInto, SeeksFrom}
use Rattle.trace_core.specs.Nodes.{Stands, Had}
use Rattle.trace_core.specs.Relations.{Reaches}
use Rattle.trace_core.specs.Searches.{IsFound}
use Rattle.trace_core.specs.Sites.{SiteEvents}
use Rattle.trace_core.specs.Spreads.{Inside, IsSpread}

-- the search stops at the item
abbrev pub IsStop : BTreeSet (List ℕ) → List ℕ → Type 0
IsStop stop i = IsFound (slice_cmp nat_cmp) stop i

-- one of the transformations that were seen gives the item out
abbrev pub GivesInside : SiteEvents → BTreeSet Group → List ℕ → Type 0
GivesInside s seen j = IsGiven s 0 seen (record { site = s.me; item = j })

-- the item, and items of its spread: with each of them at which the search doesn't stop all that it is related to, but for what
-- transformations give that were seen before; and all that the transformations give that are seen now, each of which one of the items goes into
pub record IsSpreadBeyond (s : SiteEvents) (i : List ℕ) (stop : BTreeSet (List ℕ)) (seen seen' : BTreeSet Group) (found : List (List ℕ)) : Type 0 where
  pub start : Contains found i
  pub sound : (j : List ℕ) → Contains found j → IsSpread s (i ∷ []) j
  pub followed : (j k : List ℕ) → Contains found j → (IsStop stop j → ⊥) → Inside s j k → Contains found k ⊎ GivesInside s seen k
  pub given : (k : List ℕ) → GivesInside s seen' k → GivesInside s seen k ⊎ Contains found k
  pub taken : (first : ℕ) → IsSeen seen' 0 first → IsSeen seen 0 first ⊎ ((j : List ℕ) × Contains found j × GoesInto s.events j first)

-- the pair is related to the other one inside the site, and the search doesn't stop at it
abbrev pub GoesOn : SiteEvents → BTreeSet (List ℕ) → Pair → Pair → Type 0
GoesOn s stop p q = (IsStop stop p.item → ⊥) × SeeksFrom false s p q

-- what a search has found that has visited the nodes before a place
pub record HasSearched (s : SiteEvents) (i : List ℕ) (stop : BTreeSet (List ℕ)) (seen seen' : BTreeSet Group) (nodes : List Node) (place : ℕ) : Type 0 where
  pub stand : (n : Node) → Contains nodes n → (q : Pair) × Stands (s ∷ []) n q
  pub start : Had (Stands (s ∷ [])) nodes (record { site = s.me; item = i })
  pub sound : (q : Pair) → Had (Stands (s ∷ [])) nodes q → Reaches (SeeksFrom false s) (record { site = s.me; item = i }) q
  pub followed : (n : Node) (p q : Pair) → Contains (take place nodes) n → Stands (s ∷ []) n p → GoesOn s stop p q → Had (Stands (s ∷ [])) nodes q ⊎ IsGiven s 0 seen q
  pub given : (q : Pair) → IsGiven s 0 seen' q → IsGiven s 0 seen q ⊎ Had (Stands (s ∷ [])) nodes q
  pub taken : (first : ℕ) → IsSeen seen' 0 first → IsSeen seen 0 first ⊎ ((q : Pair) × Had (Stands (s ∷ [])) nodes q × GoesInto s.events q.item first)
  pub within : place ≤ length nodes
