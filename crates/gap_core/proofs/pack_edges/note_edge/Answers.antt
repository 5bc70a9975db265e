use Rattle.std.proofs.Common.{rules, sym}
use Rattle.gap_core.proofs.EdgeLists.{edge_noted, first_edge}
use Rattle.gap_core.proofs.pack_edges.note_edge.Goals as goal

pub returns-in-Some : goal.returns-in-Some
returns-in-Some c =
    edge_noted c.args.edges.now (c.get_mut.follows.lender c.note.new.self) c.args.container.now c.args.child.now c.in-Some.items.now c.note.new.self
    ((c.get_mut.follows.holds c.note.new.self).3 (search rules)) (sym c.in-Some.ensures.value) c.in_ok-note.ensures

-- the container is new
pub returns : goal.returns
returns c =
    first_edge c.args.edges.now c.get_mut.follows.lender-at-none c.insert.new.self c.args.container.now c.in_ok-copy.field-0 c.args.child.now c.in_ok-items.items
    c.get_mut.follows.holds-at-none c.in_ok-copy.ensures (sym c.in_default.ensures.value) c.in_ok-insert.ensures.updates c.in_ok-items.ensures
