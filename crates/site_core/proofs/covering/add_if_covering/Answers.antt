use Rattle.std.proofs.Common.{sym, ◌∙◌}
use Rattle.site_core.proofs.Blocks.{cover_more}
use Rattle.site_core.proofs.covering.add_if_covering.Goals as goal

pub returns-in_ok-insert : goal.returns-in_ok-insert
returns-in_ok-insert c cover = cover_more c.args.quarantine.now c.args.body.now c.args.found.now c.insert.new.self c.args.recall cover (sym c.holds_outputs.ensures ∙ c.if-holds_outputs.true) c.in_ok-insert.ensures.updates
