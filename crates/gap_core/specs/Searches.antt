-- What the search for known packings does in a turn.
use Rattle.std.specs.Prelude.{◌≡◌, ◌<◌, ◌≤◌, ◌⊎◌, ℕ, List, Some, Contains, drop, length, slice_get}
use Rattle.trace_core.specs.Sites.{SiteEvents}
use Rattle.gap_core.specs.Adding.{AddsNothing, AddsTo}
use Rattle.gap_core.specs.Sources.{Index, IsPassedOn, IsTold, Keeps}
use Rattle.gap_core.specs.declared.sources.Source.{Source}

-- what is known of the item at a place of a list
abbrev pub IsPassedAt : List (List ℕ) → Index → ℕ → ℕ → ℕ → List ℕ × Source → Type 0
IsPassedAt sent index at to place m = (item : List ℕ) × (slice_get sent place ≡ Some item) × IsPassedOn index at to item m

-- places wait that did, from a turn on, and no further one but this
pub record LetsWait (place turn : ℕ) (old new : List ℕ) : Type 0 where
  pub kept : (k : ℕ) → Contains (drop turn old) k → Contains (drop turn new) k
  pub only : (k : ℕ) → Contains new k → Contains old k ⊎ (place ≡ k)
  pub longer : length old ≤ length new

-- the place is told, and waits if any of that is new
pub record TellsOne (sites : List SiteEvents) (at to turn : ℕ) (old new : Index) (waiting waiting' : List ℕ) : Type 0 where
  pub told : AddsTo (Keeps old) (Keeps new) (IsTold sites old at to)
  pub waits : AddsNothing (Keeps old) (Keeps new) ⊎ Contains (drop turn waiting') to
  pub lets : LetsWait to turn waiting waiting'

-- nothing is new at the place
abbrev pub IsSameAt : Index → Index → ℕ → Type 0
IsSameAt old new k = (parent : List ℕ) (from : ℕ) → Keeps new (parent, record { at = k; from = from }) → Keeps old (parent, record { at = k; from = from })

-- places before one are told, and those wait to which that is new
pub record TellsSome (sites : List SiteEvents) (at turn : ℕ) (old new : Index) (waiting waiting' : List ℕ) (before : ℕ) : Type 0 where
  pub more : (m : List ℕ × Source) → Keeps old m → Keeps new m
  pub only : (m : List ℕ × Source) → Keeps new m → Keeps old m ⊎ ((to : ℕ) × IsTold sites old at to m)
  pub told : (to : ℕ) → to < before → (m : List ℕ × Source) → IsTold sites old at to m → Keeps new m
  pub same : IsSameAt old new at
  pub waits : (k : ℕ) → IsSameAt old new k ⊎ Contains (drop turn waiting') k
  pub kept : (k : ℕ) → Contains (drop turn waiting) k → Contains (drop turn waiting') k
  pub within : (k : ℕ) → Contains waiting' k → Contains waiting k ⊎ (k < length sites)
  pub longer : length waiting ≤ length waiting'

-- all are
abbrev pub TellsAll : List SiteEvents → ℕ → ℕ → Index → Index → List ℕ → List ℕ → Type 0
TellsAll sites at turn old new waiting waiting' = TellsSome sites at turn old new waiting waiting' (length sites)
