use Rattle.std.proofs.Common.{List, ap, ◌∙◌, slice_get}
use Rattle.event_json.specs.Events.{Content}
use Rattle.trace_core.specs.Numbers.{numbered}
use Rattle.trace_core.specs.Places.{or_none, places_where, takes_item}
use Rattle.trace_core.proofs.PlaceSteps.{kept_all}
use Rattle.trace_core.proofs.books.Book.takers_at.Goals as goal

pub returns-clause-takers : goal.returns-clause-takers
returns-clause-takers c i is = c.places_at.ensures i (ap (λ ns. slice_get ns c.args.number) c.self.invariant.items.names ∙ ap (λ (es : List Content). slice_get (numbered es) c.args.number) c.self.view_is ∙ is)
    ∙ ap or_none (c.self.invariant.items.places i) ∙ kept_all (places_where (takes_item i) c.self.inside.events.items)
    ∙ ap (λ (es : List Content). places_where (takes_item i) es) c.self.view_is
