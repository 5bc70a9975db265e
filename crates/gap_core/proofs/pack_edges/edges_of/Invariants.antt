use Rattle.std.proofs.Common.{take}
use Rattle.gap_core.specs.Adding.{AddsTo, ByOne}
use Rattle.gap_core.specs.GapPacks.{IsEdgeOf, KeepsEdge}
use Rattle.gap_core.proofs.pack_edges.edges_of.Given as goal

-- those of the items so far
abbrev pub invariant-loop-gap : goal.invariant-loop-gap
invariant-loop-gap l = AddsTo (λ m. ⊥) (KeepsEdge l.edges) (ByOne (take l.gap-index l.gaps) IsEdgeOf)
