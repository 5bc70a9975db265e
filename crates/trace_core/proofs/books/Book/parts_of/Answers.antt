use Rattle.std.proofs.Common.{List, ap, ◌∙◌, option_map}
use Rattle.event_json.specs.Events.{Content}
use Rattle.trace_core.specs.PairTests.{same_id}
use Rattle.trace_core.specs.Pairs.{make_id}
use Rattle.trace_core.specs.Places.{places_where, text_places}
use Rattle.trace_core.proofs.PlaceLists.{id_looked_up}
use Rattle.trace_core.proofs.books.Book.parts_of.Goals as goal

pub returns : goal.returns
returns c = c.places_of_id.ensures ∙ id_looked_up (text_places c.self.inside.index.parts) (λ e. make_id e.body) c.self.inside.events.items c.self.invariant.ids.parts _
    ∙ ap (λ (es : List Content). places_where (λ e. same_id (make_id e.body) (option_map (λ t. t.now) c.args.id)) es) c.self.view_is
