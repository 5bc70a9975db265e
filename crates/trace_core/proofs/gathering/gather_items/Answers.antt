use Rattle.std.proofs.Common.{arith}
use Rattle.trace_core.proofs.GatheringSteps.{one_more_item}
use Rattle.trace_core.proofs.LookSteps.{one_look_more}
use Rattle.trace_core.proofs.gathering.gather_items.Goals as goal

pub loop-item-preserved : goal.loop-item-preserved
loop-item-preserved c = record {
  added = one_more_item c.args.pairs.now c.loop-item.pairs _ c.args.me c.args.items.now c.loop-item.item-index _ (omega arith) c.item-item.is c.in_ok-look_at_output.ensures.added c.loop-item.invariant.added;
  looks = one_look_more c.loop-item.item-index _ _ _ c.loop-item.invariant.looks c.in_ok-look_at_output.ensures.looks;
}

pub returns-clause-looks : goal.returns-clause-looks
returns-clause-looks c = record { least = c.loop-item.invariant.looks.least; most = omega (arith, c.loop-item.invariant.looks.most) }
