use Rattle.std.proofs.Common.{List, ◌↔◌, subst}
use mathlib.Core.Logic.{◌⊎◌}
use Rattle.std.specs.List.{Contains}
use Rattle.std.proofs.lemmas.List.{take_all}
use Rattle.trace_core.specs.declared.nodes.Node.{Node}
use Rattle.trace_core.specs.declared.pairs.Pair.{Pair}
use Rattle.trace_core.specs.Chains.{sites_at}
use Rattle.trace_core.specs.Nodes.{StandsForOne}
use Rattle.trace_core.proofs.ReachFrom.{no_starts, starts_more}
use Rattle.trace_core.proofs.chains.nodes_of_all.Goals as goal

pub loop-pair-init : goal.loop-pair-init
loop-pair-init c = no_starts (sites_at c.args.sites.now) c.new-nodes.result.items c.new-nodes.ensures.items

pub loop-pair-preserved : goal.loop-pair-preserved
loop-pair-preserved c = starts_more (sites_at c.args.sites.now) c.args.pairs.now c.loop-pair.pair-index c.pair-item.result c.loop-pair.nodes.items c.in_ok-nodes_of.field-0.items c.push_all.new.nodes.items
    c.loop-pair-test.true c.pair-item.is c.loop-pair.invariant c.in_ok-nodes_of.ensures
    (subst (λ (ns : List Node). (n : Node) → Contains c.push_all.new.nodes.items n ↔ (Contains c.loop-pair.nodes.items n ⊎ Contains ns n)) c.deref.ensures.value c.in_ok-push_all.ensures)

pub returns : goal.returns
returns c n = subst (λ (ps : List Pair). Contains c.loop-pair.nodes.items n ↔ StandsForOne (sites_at c.args.sites.now) ps n) (take_all c.loop-pair.pair-index c.args.pairs.now c.loop-pair-test.false) (c.loop-pair.invariant n)
