use Rattle.std.proofs.lemmas.Result.{on_ok_weaker}
use Rattle.report_core.proofs.SourcesFound.{inputs_taken}
use Rattle.report_core.proofs.sources.push_taken.Goals as goal

pub returns-in-Make : goal.returns-in-Make
returns-in-Make c = on_ok_weaker c.push_items.result
    (inputs_taken c.args.found.now.items c.push_items.new.found.items c.args.site c.args.body.now _ _ _ c.as_slice.result.now c.in-Make.is c.as_slice.ensures)
    c.push_items.ensures
