use Rattle.std.proofs.lemmas.Result.{on_ok_weaker, on_err_weaker}
use Rattle.trace_core.proofs.ItemSteps.{note_two, note_some_then}
use Rattle.trace_core.proofs.event_items.note_made.Goals as goal

pub returns-clause-ok : goal.returns-clause-ok
returns-clause-ok c = on_ok_weaker c.know_numbers.result
    (note_two c.args.known.now c.note_inputs.new.known c.know_numbers.new.known c.args.place c.args.ins.now c.args.outs.now c.in_ok-note_inputs.ensures.ok)
    c.know_numbers.ensures.ok

pub returns-clause-err : goal.returns-clause-err
returns-clause-err c = on_err_weaker c.know_numbers.result
    (note_some_then c.args.known.now c.note_inputs.new.known c.know_numbers.new.known c.args.place c.args.ins.now c.args.outs.now c.in_ok-note_inputs.ensures.ok)
    c.know_numbers.ensures.err
