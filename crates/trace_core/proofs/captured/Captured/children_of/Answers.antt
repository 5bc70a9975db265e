use Rattle.std.proofs.Common.{List, sym, ap, ◌∙◌, slice_get}
use Rattle.event_json.specs.Events.{Content}
use Rattle.trace_core.specs.Numbers.{number_in, numbered}
use Rattle.trace_core.specs.PutIn.{children_at}
use Rattle.trace_core.proofs.ChildLists.{children_listed, no_children}
use Rattle.trace_core.proofs.captured.Captured.children_of.Goals as goal

pub returns-in-Some : goal.returns-in-Some
returns-in-Some c =
    children_listed c.args.self.now.events c.args.parent.now c.in-Some.number c.children_at.result.now
    (sym (c.number_of.ensures ∙ ap (λ (es : List Content). number_in (numbered es) c.args.parent.now) c.book.ensures) ∙ c.in-Some.is)
    (c.children_at.ensures ∙ ap (λ (es : List Content). children_at (numbered es) es (slice_get (numbered es) c.in-Some.number)) c.book-in-Some.ensures)

pub returns-in-None : goal.returns-in-None
returns-in-None c =
    no_children c.args.self.now.events c.args.parent.now
    (sym (c.number_of.ensures ∙ ap (λ (es : List Content). number_in (numbered es) c.args.parent.now) c.book.ensures) ∙ c.in-None.is)
