use Rattle.std.proofs.Common.{inr, ⊎_elim}
use Rattle.gap_core.specs.GapPacks.{IsEdgeOf, KeepsEdge}
use Rattle.gap_core.proofs.Additions.{all_added, one_more}
use Rattle.gap_core.proofs.EdgeLists.{no_edges}
use Rattle.gap_core.proofs.pack_edges.edges_of.Goals as goal

pub loop-gap-init : goal.loop-gap-init
loop-gap-init c = no_edges c.new-edges.result c.args.gaps.now c.new-edges.ensures.empty

pub loop-gap-preserved : goal.loop-gap-preserved
loop-gap-preserved c =
    one_more IsEdgeOf c.args.gaps.now c.loop-gap.gap-index (λ m. ⊥) (KeepsEdge c.loop-gap.edges) (KeepsEdge c.note_edge.new.edges)
    c.gap-item.result c.loop-gap-test.true c.gap-item.is c.loop-gap.invariant c.in_ok-note_edge.ensures

pub returns : goal.returns
returns c m =
    let adds = all_added IsEdgeOf c.args.gaps.now c.loop-gap.gap-index (λ m. ⊥) (KeepsEdge c.loop-gap.edges) c.loop-gap-test.false c.loop-gap.invariant in
    (λ h. ⊎_elim (λ none. absurd none) (λ edge. edge) ((adds m).0 h), λ edge. (adds m).1 (inr edge))
