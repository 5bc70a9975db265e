use Rattle.std.proofs.Common.{arith}
use Rattle.trace_core.proofs.ItemSteps.{note_one, note_each, note_stops}
use Rattle.trace_core.proofs.PlaceSteps.{after_fault}
use Rattle.trace_core.proofs.event_items.note_inputs.Goals as goal

pub returns-in_err-note-clause-err : goal.returns-in_err-note-clause-err
returns-in_err-note-clause-err c = after_fault c.from_residual.result
    (note_stops c.args.known.now c.loop-item.known c.note.new.self c.args.place c.args.items.now c.loop-item.item-index c.loop-item.invariant c.in_err-note.ensures.err)

pub loop-item-preserved : goal.loop-item-preserved
loop-item-preserved c = note_one c.args.known.now c.loop-item.known c.note.new.self c.args.place c.args.items.now c.loop-item.item-index c.item-item.result (omega arith) c.item-item.is c.in_ok-note.ensures.ok c.loop-item.invariant

pub returns-clause-ok : goal.returns-clause-ok
returns-clause-ok c = note_each c.args.known.now c.loop-item.known c.loop-item.known c.args.place c.args.items.now c.loop-item.item-index (omega arith) c.loop-item.invariant
