-- Sites that are started again: what their devices hold, and that their records make a world.
use Rattle.std.specs.Prelude.{◌≡◌, ℕ, Option, Some, List, slice_get}
use Rattle.site_core.specs.Records.{Record}
use Rattle.world_core.specs.Faults.{AreOneWorld, MakeAWorld}
use Rattle.world_core.specs.Keepers.{Sites, MayBe}
use Rattle.world_core.specs.Worlds.{WorldState, records}

-- whatever world the sites may be, its records are those of all sites of one list
abbrev pub AreOfOneList : {K : Type 0} → (K → Option Record) → (K → Record → Type 0) → Sites K → Type 0
AreOfOneList shown may sites = (world : WorldState) → MayBe shown may sites world → AreOneWorld (records world)

-- whatever world the sites may be, its records make one again: no frame is in flight once all were started again
abbrev pub MakeAWorldAgain : {K : Type 0} → (K → Option Record) → (K → Record → Type 0) → Sites K → Type 0
MakeAWorldAgain shown may sites = (world : WorldState) → MayBe shown may sites world → MakeAWorld (records world)

-- a crash leaves on the device of each keeper the record that it shows, or one in which it may be opened
abbrev pub AreStored : {K : Type 0} → (K → Type 0) → List K → Type 0
AreStored {K} stored keepers = (site : ℕ) (k : K) → slice_get keepers site ≡ Some k → stored k
