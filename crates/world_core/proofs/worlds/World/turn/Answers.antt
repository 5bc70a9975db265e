use Rattle.std.proofs.Common.{sym, subst}
use Rattle.world_core.specs.Restarting.{AreStored}
use Rattle.world_core.proofs.Fitting.{turns_keep_the_fit}
use Rattle.world_core.proofs.Pins.{turns_stay_one}
use Rattle.world_core.proofs.worlds.World.turn.Goals as goal

pub invariant_of-self : goal.invariant_of-self
invariant_of-self g c = (
  λ world may.
      let from = c.take_turn.ensures.world world may in
      turns_keep_the_fit from.0 world c.args.event c.take_turn.result (c.self.invariant.0 from.0 from.1) from.2,
  λ world may.
      let from = c.take_turn.ensures.world world may in
      turns_stay_one from.0 world c.args.event c.take_turn.result (c.self.invariant.0 from.0 from.1) (c.self.invariant.1 from.0 from.1) from.2,
)

pub returns-clause-stored : goal.returns-clause-stored
returns-clause-stored g c h = c.take_turn.ensures.stored (subst (λ s. AreStored g.K.SiteKeeper.stored s.keepers) (sym c.self.view_is) h)
