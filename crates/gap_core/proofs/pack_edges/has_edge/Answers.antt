use mathlib.Core.Bool.{false≢true}
use Rattle.gap_core.proofs.EdgeLists.{edges_told, none_told}
use Rattle.gap_core.proofs.pack_edges.has_edge.Goals as goal

pub returns-in-Some : goal.returns-in-Some
returns-in-Some c =
    let told = edges_told c.args.edges.now c.args.container.now c.in-Some.list.now c.args.items.now c.in-Some.ensures.value in
    (λ yes. told.0 (c.has_one.ensures.0 yes), λ any. c.has_one.ensures.1 (told.1 any))

pub returns-in-None : goal.returns-in-None
returns-in-None c = (λ yes. absurd (false≢true yes), λ any. absurd (none_told c.args.edges.now c.args.container.now c.args.items.now c.in-None.ensures.value any))
