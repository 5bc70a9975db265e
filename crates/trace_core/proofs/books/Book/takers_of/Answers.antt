use Rattle.std.proofs.Common.{List, ap, ◌∙◌}
use Rattle.event_json.specs.Events.{Content}
use Rattle.trace_core.specs.Places.{or_none, places_where, takes_item}
use Rattle.trace_core.proofs.PlaceSteps.{kept_all}
use Rattle.trace_core.proofs.books.Book.takers_of.Goals as goal

pub returns : goal.returns
returns c = c.places_of.ensures ∙ ap or_none (c.self.invariant.items.places c.args.item.now) ∙ kept_all (places_where (takes_item c.args.item.now) c.self.inside.events.items)
    ∙ ap (λ (es : List Content). places_where (takes_item c.args.item.now) es) c.self.view_is
