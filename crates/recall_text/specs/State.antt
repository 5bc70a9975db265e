-- What the lines of a script leave, by which a list of sites is defined as well.
use Rattle.std.specs.Prelude.{List, Option}
use Rattle.event_json.specs.Sites.{Site}
use Rattle.keeper_core.specs.declared.faults.Keep.{Keep}
use Rattle.world_core.specs.Worlds.{WorldState}

pub record World : Type 0 where
  -- in the order of their numbers
  pub sites : List Site
  -- how each site stands, and the frames that were sent
  pub world : WorldState
  -- of each site, the stop that is armed for its next step
  pub armed : List (Option Keep)

-- what the lines of a script so far left: the sites, while they are gathered, and then the world
pub data State : Type 0 where
  gathering : List Site → State
  running : World → State
