-- A world at one moment: a record for each site, and each frame that was ever sent.
use Rattle.std.specs.Prelude.{List, map}
use Rattle.frame_core.specs.declared.frames.Frame.{Frame}
use Rattle.site_core.specs.Records.{Record}
use Rattle.site_recovery.specs.Fit.{Fits}
use Rattle.site_recovery.specs.Laws.{AreInPlace}
use Rattle.site_recovery.specs.Looks.{world_of}

-- A site is up with its record, or down. What it will be opened in is settled when it goes down, and seen when it
-- is opened.
pub data Standing : Type 0 where
  Up : Record → Standing
  Down : Record → Standing

abbrev pub record_of : Standing → Record
record_of (Up r) = r
record_of (Down r) = r

pub record WorldState : Type 0 where
  -- of each site, in the order of their numbers
  pub sites : List Standing
  -- in the order in which they were sent
  pub sent : List Frame

abbrev pub records : WorldState → List Record
records world = map record_of world.sites

-- each record is in its site's place, and the records of all sites, up or down, are consistent with all frames sent
pub record WorldFits (world : WorldState) : Type 0 where
  pub places : AreInPlace (records world)
  pub fits : Fits (world_of (records world)) world.sent
