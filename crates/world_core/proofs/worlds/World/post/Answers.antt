use Rattle.world_core.specs.declared.events.WorldEvent.TheVariants.{Send}
use Rattle.world_core.proofs.Fitting.{turns_keep_the_fit}
use Rattle.world_core.proofs.Pins.{turns_stay_one}
use Rattle.world_core.proofs.worlds.World.post.Goals as goal

pub invariant_of-self : goal.invariant_of-self
invariant_of-self g c =
    let (place, is, comes, kind) = c.post.ensures in (
      λ world may.
          let from = comes world may in
          turns_keep_the_fit from.0 world (Send c.args.site place) c.post.result (c.self.invariant.0 from.0 from.1) from.2,
      λ world may.
          let from = comes world may in
          turns_stay_one from.0 world (Send c.args.site place) c.post.result (c.self.invariant.0 from.0 from.1) (c.self.invariant.1 from.0 from.1) from.2,
    )
