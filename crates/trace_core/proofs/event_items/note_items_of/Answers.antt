use Rattle.trace_core.specs.Spreads.{ins_in}
use Rattle.trace_core.proofs.ItemSteps.{taken_again}
use Rattle.trace_core.proofs.event_items.note_items_of.Goals as goal

pub returns-in-Err-clause-err : goal.returns-in-Err-clause-err
returns-in-Err-clause-err c = taken_again c.args.known.now c.note_some_of.new.known c.forget_items_of.new.known c.args.place _ (ins_in c.args.body.now) c.in-Err.ensures.err c.forget_items_of.ensures c.len-before.ensures
