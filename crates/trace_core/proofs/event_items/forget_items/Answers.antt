use Rattle.std.proofs.Common.{arith}
use Rattle.trace_core.proofs.ItemSteps.{forget_one, forget_each}
use Rattle.trace_core.proofs.event_items.forget_items.Goals as goal

pub loop-item-preserved : goal.loop-item-preserved
loop-item-preserved c = forget_one c.args.known.now c.loop-item.known c.forget.new.self c.args.place c.args.items.now c.loop-item.item-index c.item-item.result (omega arith) c.item-item.is c.forget.ensures c.loop-item.invariant

pub returns : goal.returns
returns c = forget_each c.args.known.now c.loop-item.known c.loop-item.known c.args.place c.args.items.now c.loop-item.item-index (omega arith) c.loop-item.invariant
