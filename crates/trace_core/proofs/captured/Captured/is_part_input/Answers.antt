use Rattle.std.proofs.Common.{◌&&◌, List, ap, ◌∙◌}
use Rattle.std.specs.List.{list_any}
use Rattle.event_json.specs.Events.{Content}
use Rattle.trace_core.specs.PairTests.{takes_in}
use Rattle.trace_core.specs.Places.{has_part}
use Rattle.trace_core.proofs.PartMembers.{inputs_decide}
use Rattle.trace_core.proofs.captured.Captured.is_part_input.Goals as goal

pub returns : goal.returns
returns c = inputs_decide c.args.self.now.events c.args.id.now c.args.item.now c.is_input_of_part.result
    (c.is_input_of_part.ensures ∙ ap (λ (es : List Content). list_any (λ e. takes_in c.args.item.now e.body && has_part c.args.id.now e) es) c.book.ensures)
