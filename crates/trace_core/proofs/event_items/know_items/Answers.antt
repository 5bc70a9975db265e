use Rattle.std.proofs.Common.{arith}
use Rattle.trace_core.proofs.ItemSteps.{know_one, know_each, know_stops}
use Rattle.trace_core.proofs.PlaceSteps.{after_fault}
use Rattle.trace_core.proofs.event_items.know_items.Goals as goal

pub returns-in_err-know-clause-err : goal.returns-in_err-know-clause-err
returns-in_err-know-clause-err c = after_fault c.from_residual.result
    (know_stops c.args.known.now c.loop-item.known c.know.new.self c.args.items.now c.loop-item.item-index c.loop-item.invariant c.in_err-know.ensures.err)

pub loop-item-preserved : goal.loop-item-preserved
loop-item-preserved c = know_one c.args.known.now c.loop-item.known c.know.new.self c.args.items.now c.loop-item.item-index c.item-item.result (omega arith) c.item-item.is c.in_ok-know.ensures.ok c.loop-item.invariant

pub returns-clause-ok : goal.returns-clause-ok
returns-clause-ok c = know_each c.args.known.now c.loop-item.known c.loop-item.known c.args.items.now c.loop-item.item-index (omega arith) c.loop-item.invariant
