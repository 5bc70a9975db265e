-- How the sites of keepers in memory stand.
use Rattle.std.specs.Prelude.{Bool, true, false}
use Rattle.keeper_core.specs.Memory.{InMemory}
use Rattle.site_core.specs.Records.{Record}
use Rattle.world_core.specs.Worlds.{Standing, Up, Down}

abbrev pub standing_by : Bool → Record → Standing
standing_by true r = Up r
standing_by false r = Down r

-- an open keeper's site is up, a closed one's is down
abbrev pub standing_of : InMemory → Standing
standing_of keeper = standing_by keeper.is_open keeper.state
