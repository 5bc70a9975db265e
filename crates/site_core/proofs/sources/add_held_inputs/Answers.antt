use Rattle.std.proofs.lemmas.Result.{on_ok_weaker}
use Rattle.site_core.proofs.SourcesFound.{held_among_parts}
use Rattle.site_core.proofs.sources.add_held_inputs.Goals as goal

pub returns-else-item_count-part_count : goal.returns-else-item_count-part_count
returns-else-item_count-part_count c = on_ok_weaker c.add_parts.result (held_among_parts c.args.captured.now.events c.args.quarantine.now c.args.id.now c.args.found.now c.add_parts.new.found) c.add_parts.ensures
