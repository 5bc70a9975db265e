use Rattle.std.proofs.Common.{take, map}
use Rattle.world_core.specs.Keepers.{AllShow}
use Rattle.world_core.proofs.views.views.Given as goal

abbrev pub invariant-loop-place : goal.invariant-loop-place
invariant-loop-place g l = AllShow g.K.SiteKeeper.shown (take l.place l.keepers) (map (λ s. s.now) l.states.items)
