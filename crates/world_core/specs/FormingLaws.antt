-- Which records make a world.
use Rattle.std.specs.Prelude.{◌≡◌, List}
use Rattle.site_core.specs.Records.{Record}
use Rattle.world_core.specs.Faults.{AreFresh, AreOneWorld, Hinders, MakeAWorld}
use Rattle.world_core.specs.declared.faults.WorldFault.{WorldFault}
use Rattle.world_core.specs.declared.faults.WorldFault.TheVariants.{NoMemory}

-- The records of all sites in order, at which nothing happened yet, make a world.
abbrev pub FreshSitesMakeAWorld : Type 0
FreshSitesMakeAWorld = (records : List Record) → AreOneWorld records → AreFresh records → MakeAWorld records

-- Where records make a world, nothing but out of memory prevents them.
abbrev pub OnlyMemoryHindersAWorld : Type 0
OnlyMemoryHindersAWorld = (records : List Record) → MakeAWorld records → (fault : WorldFault) → Hinders fault records → fault ≡ NoMemory
