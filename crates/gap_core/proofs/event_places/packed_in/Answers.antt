use Rattle.std.specs.Option.{option_map}
use Rattle.gap_core.proofs.LineEventSteps.{some_packed}
use Rattle.gap_core.proofs.event_places.packed_in.Goals as goal

pub returns : goal.returns
returns c = some_packed c.args.body.now c.children_in.result.now c.children_in.ensures (option_map (λ i. i.now) c.filled.result) c.filled.ensures (λ none. c.if-children_in-eq0.false none)
