use Rattle.std.proofs.Common.{◌↔◌, List, subst}
use mathlib.Core.Logic.{◌⊎◌}
use Rattle.std.specs.List.{Contains}
use Rattle.std.proofs.lemmas.List.{take_all}
use Rattle.trace_core.specs.declared.pairs.Pair.{Pair}
use Rattle.trace_core.proofs.FoundSteps.{none_more}
use Rattle.trace_core.proofs.ReachFrom.{one_pushed}
use Rattle.trace_core.proofs.chains.push_roots.Goals as goal

pub loop-root-init : goal.loop-root-init
loop-root-init c = none_more c.args.pairs.now.items

pub loop-root-preserved : goal.loop-root-preserved
loop-root-preserved c = one_pushed c.args.pairs.now.items c.loop-root.pairs.items c.push.new.self.items c.args.roots.now c.loop-root.root-index c.root-item.result c.in_ok-copy.field-0
    c.loop-root-test.true c.root-item.is c.in_ok-copy.ensures c.in_ok-push.ensures.items c.loop-root.invariant

pub returns : goal.returns
returns c p = subst (λ (ns : List Pair). Contains c.loop-root.pairs.items p ↔ (Contains c.args.pairs.now.items p ⊎ Contains ns p)) (take_all c.loop-root.root-index c.args.roots.now c.loop-root-test.false) (c.loop-root.invariant p)
