use Rattle.std.proofs.Common.{subst}
use Rattle.event_json.specs.declared.bodies.Body.{Body}
use Rattle.trace_core.specs.PutIn.{children_in}
use Rattle.trace_core.specs.Sendings.{Goes, SendsOn}
use Rattle.trace_core.proofs.indexes.note_rest.Goals as goal

pub returns-in-Ok-clause-sent : goal.returns-in-Ok-clause-sent
returns-in-Ok-clause-sent c =
    subst (λ (b : Body). SendsOn (children_in c.args.packed.now) c.args.numbers.now (Goes c.args.sent.now b c.args.parent) c.args.sent.now c.note_event.new.self)
    c.body.ensures.value c.in_ok-note_event.ensures.ok
