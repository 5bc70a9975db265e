use Rattle.std.proofs.Common.{take, map}
use Rattle.world_core.specs.Keepers.{AllShow}
use Rattle.site_threads.proofs.worlds.records_of.Given as goal

abbrev pub invariant-loop-keeper : goal.invariant-loop-keeper
invariant-loop-keeper g l = AllShow g.K.SiteKeeper.shown (take l.keeper-index l.keepers) (map (λ s. s.now) l.states.items)
