use Rattle.std.proofs.Common.{refl}
use Rattle.std.proofs.lemmas.Bool.{ltb-true, lt-ltb}
use Rattle.frame_core.proofs.Below.{below_last, last_below, none_below}
use Rattle.frame_core.proofs.tables.are_below.Goals as goal

pub returns-in-Some : goal.returns-in-Some
returns-in-Some g c =
    let up = c.len-length.ensures.ordered in (
      λ less. below_last c.args.map.now c.args.number up c.in-Some.last.now c.in-Some.ensures.greatest (ltb-true c.in-Some.last.now c.args.number less),
      λ below. lt-ltb c.in-Some.last.now c.args.number (last_below c.args.map.now c.args.number up c.in-Some.last.now _ c.in-Some.ensures.value below),
    )

pub returns-in-None : goal.returns-in-None
returns-in-None g c = (
  λ _. none_below c.args.map.now c.args.number c.len-length.ensures.ordered (λ some. let there = c.in-None.ensures.variant.1 some in cc),
  λ _. refl,
)
