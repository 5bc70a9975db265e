-- The conditions of the records by their numbers, and what they are at the sites of a list.
use Rattle.std.specs.Prelude.{◌≡◌, ◌↔◌, ℕ, ◌<◌, List, length}
use Rattle.site_core.specs.Records.{Record, IsSound}
use Rattle.site_recovery.specs.Fit.{Fit, IsClosedAt, IsToldAt, IsJustifiedAt, WaitsRightlyAt, ParentsStandAt, ParentsLeadHomeFrom, EndsAreQuietAt, NumbersAreBelowOf}
use Rattle.site_recovery.specs.Laws.{IsInPlace}
use Rattle.site_recovery.specs.Looks.{World, world_of}

-- The conditions but for those of sent frames, which have the numbers 7 and 8.
pub data Condition : Type 0 where
  Closed : Condition
  Told : Condition
  Justified : Condition
  Waiting : Condition
  ParentsStand : Condition
  ParentsLeadHome : Condition
  EndsAreQuiet : Condition
  NumbersAreBelow : Condition

abbrev pub number_of : Condition → ℕ
number_of Closed = 1
number_of Told = 2
number_of Justified = 3
number_of Waiting = 4
number_of ParentsStand = 5
number_of ParentsLeadHome = 6
number_of EndsAreQuiet = 9
number_of NumbersAreBelow = 10

-- the condition at the site
abbrev pub FitAt : World → Condition → ℕ → Type 0
FitAt W Closed s = IsClosedAt W s
FitAt W Told s = IsToldAt W s
FitAt W Justified s = IsJustifiedAt W s
FitAt W Waiting s = WaitsRightlyAt W s
FitAt W ParentsStand s = ParentsStandAt W s
FitAt W ParentsLeadHome s = ParentsLeadHomeFrom W s
FitAt W EndsAreQuiet s = EndsAreQuietAt W s
FitAt W NumbersAreBelow s = NumbersAreBelowOf W s

-- a record is one of as many sites, in its place
pub record IsOneOf (sites : ℕ) (s : ℕ) (site : Record) : Type 0 where
  pub place : IsInPlace site s
  pub sound : IsSound site
  pub all : length site.sites ≡ sites

-- these are the records of all sites of a list, in order
abbrev pub AreAllSites : List Record → Type 0
AreAllSites records = (s : ℕ) → s < length records → IsOneOf (length records) s (world_of records s)

-- A site that waits rightly and isn't engaged for its own recalls has no row of an ended one. So the ninth condition
-- fails only where the fourth or the sixth does.
abbrev pub QuietEndsFollow : Type 0
QuietEndsFollow = (W : World) (s : ℕ) → WaitsRightlyAt W s → ParentsLeadHomeFrom W s → EndsAreQuietAt W s

-- The records of all sites of a list are consistent exactly where each condition holds at each of these.
abbrev pub FitIsByConditions : Type 0
FitIsByConditions = (records : List Record) → AreAllSites records → Fit (world_of records) ↔ ((c : Condition) (s : ℕ) → s < length records → FitAt (world_of records) c s)
