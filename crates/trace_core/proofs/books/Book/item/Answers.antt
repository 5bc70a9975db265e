use Rattle.std.proofs.Common.{List, ap, ◌∙◌, slice_get}
use Rattle.event_json.specs.Events.{Content}
use Rattle.trace_core.specs.Numbers.{numbered}
use Rattle.trace_core.proofs.books.Book.item.Goals as goal

pub returns : goal.returns
returns c = c.name.ensures ∙ ap (λ ns. slice_get ns c.args.number) c.self.invariant.items.names ∙ ap (λ (es : List Content). slice_get (numbered es) c.args.number) c.self.view_is
