use Rattle.std.proofs.Common.{List, ap, ◌∙◌}
use Rattle.event_json.specs.Events.{Content}
use Rattle.trace_core.specs.Numbers.{number_in, numbered}
use Rattle.trace_core.proofs.books.Book.number_of.Goals as goal

pub returns : goal.returns
returns c = c.number.ensures ∙ ap (λ ns. number_in ns c.args.item.now) c.self.invariant.items.names ∙ ap (λ (es : List Content). number_in (numbered es) c.args.item.now) c.self.view_is
