use Rattle.std.proofs.Common.{◌↔◌, List, refl, subst}
use mathlib.Core.Logic.{◌⊎◌}
use Rattle.std.specs.List.{Contains}
use Rattle.std.proofs.lemmas.List.{take_all}
use Rattle.trace_core.specs.declared.nodes.Node.{Node}
use Rattle.trace_core.proofs.FoundSteps.{none_more}
use Rattle.trace_core.proofs.ReachFrom.{one_pushed}
use Rattle.trace_core.proofs.chains.push_all.Goals as goal

pub loop-node-init : goal.loop-node-init
loop-node-init c = none_more c.args.nodes.now.items

pub loop-node-preserved : goal.loop-node-preserved
loop-node-preserved c = one_pushed c.args.nodes.now.items c.loop-node.nodes.items c.push.new.self.items c.args.more.now c.loop-node.node-index c.node-item.result c.node-item.result
    c.loop-node-test.true c.node-item.is refl c.in_ok-push.ensures.items c.loop-node.invariant

pub returns : goal.returns
returns c n = subst (λ (ns : List Node). Contains c.loop-node.nodes.items n ↔ (Contains c.args.nodes.now.items n ⊎ Contains ns n)) (take_all c.loop-node.node-index c.args.more.now c.loop-node-test.false) (c.loop-node.invariant n)
