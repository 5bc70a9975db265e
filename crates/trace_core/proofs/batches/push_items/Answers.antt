use Rattle.std.proofs.Common.{◌≡◌, List, ℕ, Some, slice_get}
use Rattle.std.proofs.lemmas.Result.{on_ok_weaker}
use Rattle.trace_core.specs.declared.nodes.Node.{Node}
use Rattle.trace_core.specs.Numbers.{numbered}
use Rattle.trace_core.proofs.FoundSteps.{all_in_batches, either_then}
use Rattle.trace_core.proofs.batches.push_items.Goals as goal

pub returns : goal.returns
returns c = on_ok_weaker c.push_items_in.result
    (λ are i. either_then (are i) (all_in_batches (λ (n : Node) (j : List ℕ). slice_get (numbered c.args.book.now) n.item ≡ Some j) c.batches.result.now c.args.nodes.now c.batches.ensures i))
    c.push_items_in.ensures
