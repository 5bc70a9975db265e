-- What is added to something that holds elements.
use Rattle.std.specs.Prelude.{◌≡◌, ◌↔◌, ◌⊎◌, ℕ, List, ◌++◌, Some, Contains, slice_get}
use Rattle.std.specs.BTreeSet.{BTreeSet}
use Rattle.trace_core.specs.declared.pairs.Pair.{Pair}
use Rattle.trace_core.specs.Pairs.{pair_cmp}
use Rattle.trace_core.specs.Searches.{IsFound}

-- just those of P are added
abbrev pub AddsTo : {X : Type 0} → (X → Type 0) → (X → Type 0) → (X → Type 0) → Type 0
AddsTo {X} Old New P = (x : X) → New x ↔ (Old x ⊎ P x)

-- so to a list
abbrev pub AddsToList : {X : Type 0} → List X → List X → (X → Type 0) → Type 0
AddsToList old new P = AddsTo (Contains old) (Contains new) P

-- nothing is new
abbrev pub AddsNothing : {X : Type 0} → (X → Type 0) → (X → Type 0) → Type 0
AddsNothing {X} Old New = (x : X) → New x → Old x

-- it is so by one of the list
abbrev pub ByOne : {X Y : Type 0} → List Y → (Y → X → Type 0) → X → Type 0
ByOne {X} {Y} ys P x = (y : Y) × Contains ys y × P y x

-- by the one at a place of it
abbrev pub ByOneAt : {X Y : Type 0} → List Y → (Y → X → Type 0) → ℕ → X → Type 0
ByOneAt {X} {Y} ys P place x = (y : Y) × (slice_get ys place ≡ Some y) × P y x

-- those of P are there now; those that weren't there before come at the end, and nothing else does
pub record NotesThose {X : Type 0} (P : X → Type 0) (old new : List X) : Type 0 where
  pub more : List X
  pub appended : new ≡ old ++ more
  pub only : (x : X) → Contains more x → P x
  pub all : (x : X) → P x → Contains new x

-- so for one
abbrev pub NotesOne : {X : Type 0} → X → List X → List X → Type 0
NotesOne {X} y old new = NotesThose (λ (x : X). y ≡ x) old new

-- the pairs were added to the set
abbrev pub AddsPairs : BTreeSet Pair → List Pair → BTreeSet Pair → Type 0
AddsPairs old pairs new = AddsTo (IsFound pair_cmp old) (IsFound pair_cmp new) (Contains pairs)
