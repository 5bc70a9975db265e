use Rattle.std.proofs.Common.{sym, ◌∙◌}
use mathlib.Core.Bool.{false≢true}
use Rattle.site_core.proofs.SourcesFound.{input_found}
use Rattle.site_core.proofs.sources.add_if_input.Goals as goal

pub returns-in_ok-insert : goal.returns-in_ok-insert
returns-in_ok-insert c = input_found c.args.captured.now.events c.args.id.now c.args.item.now c.in_ok-copy.field-0 c.args.found.now c.insert.new.self c.in_ok-copy.ensures c.in_ok-insert.ensures.updates

pub returns-else-is_part_input : goal.returns-else-is_part_input
returns-else-is_part_input c = record {
  stay = λ i h. h;
  here = λ takes. absurd (false≢true (sym c.if-is_part_input.false ∙ c.is_part_input.ensures.1 takes));
}
