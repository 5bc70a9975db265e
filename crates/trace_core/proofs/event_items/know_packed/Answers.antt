use Rattle.std.proofs.lemmas.Result.{on_ok_weaker, on_err_weaker}
use Rattle.trace_core.specs.Spreads.{parents}
use Rattle.trace_core.proofs.ItemSteps.{knows_both, knows_some_then}
use Rattle.trace_core.proofs.event_items.know_packed.Goals as goal

pub returns-clause-ok : goal.returns-clause-ok
returns-clause-ok c = on_ok_weaker c.know_numbers.result
    (knows_both c.args.known.now c.know_parent.new.known c.know_numbers.new.known (parents c.args.parent.now) c.in_ok-know_parent.ensures.ok c.args.children.now)
    c.know_numbers.ensures.ok

pub returns-clause-err : goal.returns-clause-err
returns-clause-err c = on_err_weaker c.know_numbers.result
    (knows_some_then c.args.known.now c.know_parent.new.known c.know_numbers.new.known (parents c.args.parent.now) c.in_ok-know_parent.ensures.ok)
    c.know_numbers.ensures.err
