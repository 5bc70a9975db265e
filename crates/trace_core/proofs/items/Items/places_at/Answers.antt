use Rattle.std.proofs.Common.{List, slice_get, sym, ap, ◌∙◌}
use Rattle.trace_core.specs.Numbers.{Named, names_of, item_places}
use Rattle.trace_core.specs.Places.{or_none}
use Rattle.trace_core.proofs.NamedLists.{places_there, no_places_there}
use Rattle.trace_core.proofs.items.Items.places_at.Goals as goal

pub returns-in-Some : goal.returns-in-Some
returns-in-Some c i is = c.as_slice.ensures
    ∙ places_there c.self.inside.items.entries c.args.number _ c.in-Some.places.now i c.in-Some.ensures.entry c.in-Some.ensures.value (ap (λ (xs : List Named). slice_get (names_of xs) c.args.number) c.self.view_is ∙ is)
    ∙ ap (λ (xs : List Named). or_none (item_places xs i)) c.self.view_is

pub returns-in-None : goal.returns-in-None
returns-in-None c i is =
    no_places_there c.self.inside.items.entries c.args.number i (sym c.in-None.ensures.entry) (ap (λ (xs : List Named). slice_get (names_of xs) c.args.number) c.self.view_is ∙ is)
    ∙ ap (λ (xs : List Named). or_none (item_places xs i)) c.self.view_is
