use Rattle.std.proofs.Common.{◌↔◌}
use Rattle.std.specs.List.{Contains}
use Rattle.std.proofs.lemmas.Result.{IfOk-weaker}
use Rattle.trace_core.specs.declared.nodes.Node.{Node}
use Rattle.trace_core.specs.declared.pairs.Pair.{Pair}
use Rattle.trace_core.specs.Chains.{sites_at}
use Rattle.trace_core.specs.Found.{IsInBatch}
use Rattle.trace_core.specs.Nodes.{Stands}
use Rattle.trace_core.proofs.FoundSteps.{all_in_batches, iff_then}
use Rattle.trace_core.proofs.batches.pairs_of.Goals as goal

pub returns : goal.returns
returns c = IfOk-weaker c.pairs_in.result
    (λ pairs. (p : Pair) → Contains pairs.items p ↔ ((n : Node) × IsInBatch c.batches.result.now n × Stands (sites_at c.args.sites.now) n p))
    (λ pairs. (p : Pair) → Contains pairs.items p ↔ ((n : Node) × Contains c.args.nodes.now n × Stands (sites_at c.args.sites.now) n p))
    (λ pairs are p. iff_then (are p) (all_in_batches (Stands (sites_at c.args.sites.now)) c.batches.result.now c.args.nodes.now c.batches.ensures p))
    c.pairs_in.ensures
