use Rattle.std.proofs.Common.{sym, ◌∙◌}
use Rattle.site_core.proofs.Blocks.{parts_cover}
use Rattle.site_core.proofs.covering.add_if_held_at.Goals as goal

pub returns-in_ok-insert : goal.returns-in_ok-insert
returns-in_ok-insert c all parts cover = parts_cover c.args.captured.now.events c.args.quarantine.now c.args.body.now c.args.recall c.args.places.now all (sym c.holds_outputs.ensures ∙ c.if-holds_outputs.true) (c.holds_parts.ensures c.if-holds_parts.true parts)
    c.args.found.now c.insert.new.self c.in_ok-insert.ensures.updates cover
