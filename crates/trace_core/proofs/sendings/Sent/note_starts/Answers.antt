use Rattle.std.proofs.lemmas.Result.{on_ok_weaker}
use Rattle.trace_core.specs.Sendings.{Goes}
use Rattle.trace_core.proofs.SentSteps.{started}
use Rattle.trace_core.proofs.sendings.Sent.note_starts.Goals as goal

pub returns-clause-ok : goal.returns-clause-ok
returns-clause-ok c = on_ok_weaker c.note_at_each.result
    (started c.args.self.now c.note_at_each.new.self c.args.items.now c.destinations-sites.result (Goes c.args.self.now c.args.body.now c.args.parent) c.destinations-sites.ensures)
    c.note_at_each.ensures.ok
