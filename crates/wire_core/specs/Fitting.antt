-- What the rule says of the records and the frames sent. It is named here, and opened by no step.
use Rattle.std.specs.Prelude.{List}
use Rattle.frame_core.specs.declared.frames.Frame.{Frame}
use Rattle.site_core.specs.Records.{Record}
use Rattle.site_recovery.specs.Fit.{Fits}
use Rattle.site_recovery.specs.Laws.{AreInPlace}
use Rattle.site_recovery.specs.Looks.{world_of}

-- the records of all sites, each in its place, are consistent with all frames sent
pub record RecordsFit (records : List Record) (sent : List Frame) : Type 0 where
  pub places : AreInPlace records
  pub fits : Fits (world_of records) sent
