use Rattle.std.proofs.Common.{take}
use Rattle.site_recovery.specs.Checking.{records_at}
use Rattle.world_core.specs.Keepers.{AllShow}
use Rattle.site_folders.proofs.folders.open_records.Given as goal

abbrev pub invariant-loop-keeper : goal.invariant-loop-keeper
invariant-loop-keeper g l = AllShow g.K.SiteKeeper.shown (take l.keeper-index l.keepers) (records_at l.records.items)
