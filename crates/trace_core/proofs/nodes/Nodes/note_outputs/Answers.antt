use Rattle.std.proofs.Common.{ℕ, arith}
use Rattle.std.proofs.lemmas.List.{get_or_default}
use Rattle.trace_core.specs.declared.nodes.Node.{Node}
use Rattle.trace_core.proofs.NodeSteps.{one_mapped, each_mapped}
use Rattle.trace_core.proofs.nodes.Nodes.note_outputs.Goals as goal

pub loop-item-preserved : goal.loop-item-preserved
loop-item-preserved c =
    let made : ℕ → Node = λ i. record { site = c.args.site; item = i; at = c.args.me } in
    one_mapped c.args.self.now c.loop-item.self c.note.new.self made c.args.items.now c.loop-item.item-index _ (omega (arith, c.loop-item-test.true)) (get_or_default c.args.items.now c.loop-item.item-index 0 _ (omega (arith, c.loop-item-test.true)))
    c.loop-item.invariant c.in_ok-note.ensures

pub returns : goal.returns
returns c = each_mapped c.args.self.now c.loop-item.self (λ (i : ℕ). record { site = c.args.site; item = i; at = c.args.me }) c.args.items.now c.loop-item.item-index (omega (arith, c.loop-item-test.false)) c.loop-item.invariant
