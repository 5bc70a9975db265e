use Rattle.std.proofs.lemmas.Result.{on_ok_weaker}
use Rattle.trace_core.proofs.GainSteps.{unsent, sent}
use Rattle.trace_core.proofs.visits.note_sent.Goals as goal

pub returns-then-not-ships : goal.returns-then-not-ships
returns-then-not-ships c i so = unsent c.args.ships c.args.me c.args.book.now c.args.number c.args.item i c.args.nodes.now c.if-not-ships.true

pub returns : goal.returns
returns c = on_ok_weaker c.note_destinations.result
    (λ noted i so. sent c.args.ships c.args.me c.args.book.now c.args.number c.args.item i c.args.nodes.now c.note_destinations.new.self c.if-not-ships.false c.sites_at.result (c.sites_at.ensures i so) noted)
    c.note_destinations.ensures
