use Rattle.std.proofs.Common.{List, ◌↔◌, subst}
use Rattle.std.specs.List.{Contains}
use Rattle.trace_core.specs.declared.nodes.Node.{Node}
use Rattle.trace_core.specs.Found.{IsInBatch}
use Rattle.trace_core.proofs.nodes.Nodes.batches.Goals as goal

pub returns : goal.returns
returns c n = subst (λ (ns : List Node). IsInBatch c.self.inside.marks n ↔ Contains ns n) c.self.view_is (c.self.invariant n)
