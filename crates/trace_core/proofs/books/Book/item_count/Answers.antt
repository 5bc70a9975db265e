use Rattle.std.proofs.Common.{List, length, sym, ap, ◌∙◌}
use Rattle.event_json.specs.Events.{Content}
use Rattle.trace_core.specs.Numbers.{numbered}
use Rattle.trace_core.proofs.IndexSteps.{count_names}
use Rattle.trace_core.proofs.books.Book.item_count.Goals as goal

pub returns : goal.returns
returns c = c.len.ensures ∙ sym (count_names c.self.inside.index.items c.self.inside.events.items c.self.invariant.items.names) ∙ ap (λ (es : List Content). length (numbered es)) c.self.view_is
