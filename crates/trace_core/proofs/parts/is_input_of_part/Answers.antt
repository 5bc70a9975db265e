use Rattle.std.proofs.Common.{◌∙◌}
use Rattle.trace_core.proofs.PartMembers.{at_takers}
use Rattle.trace_core.proofs.parts.is_input_of_part.Goals as goal

pub returns : goal.returns
returns c = c.is_part_among.ensures ∙ at_takers c.args.book.now c.args.id.now c.args.item.now c.takers_of.result.now c.takers_of.ensures
