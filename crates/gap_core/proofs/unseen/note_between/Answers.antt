use Rattle.std.proofs.Common.{rules}
use Rattle.std.proofs.lemmas.Result.{on_ok_weaker}
use Rattle.gap_core.proofs.UnseenSteps.{between, not_between}
use Rattle.gap_core.proofs.unseen.note_between.Goals as goal

pub returns-then-eq : goal.returns-then-eq
returns-then-eq c = not_between c.args.from.now c.args.to.now c.args.items.now.items (search rules)

pub returns : goal.returns
returns c = on_ok_weaker c.note_all.result
    (between c.args.from.now c.args.to.now c.me-3.result c.in_ok-sent.sent c.args.items.now.items c.note_all.new.items.items c.me-3.ensures (search rules) c.in_ok-sent.ensures)
    c.note_all.ensures
