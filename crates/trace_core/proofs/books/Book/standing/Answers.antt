use Rattle.std.proofs.Common.{List, subst, sym, ◌∙◌}
use Rattle.event_json.specs.Events.{Content}
use Rattle.trace_core.specs.EventIds.{hash_places, has_hash}
use Rattle.trace_core.specs.Places.{IsIndex}
use Rattle.trace_core.proofs.StandingPlaces.{ids_found, named_there, stands_fresh, stands_known, stands_taken}
use Rattle.trace_core.proofs.books.Book.standing.Goals as goal

pub returns-then-not-is_named_at : goal.returns-then-not-is_named_at
returns-then-not-is_named_at c =
    let found = (ids_found c.self.inside.index.ids c.args.self.now c.alike-places.result.now _ c.args.event.now.id c.alike-places.ensures c.id.ensures.value (subst (λ (es : List Content). IsIndex (hash_places c.self.inside.index.ids.places) (has_hash c.self.inside.index.ids.keys) es) c.self.view_is c.self.invariant.ids.ids)) in
    stands_fresh c.self.inside.index.ids.keys c.args.self.now c.args.event.now c.alike-places.result.now found
    (sym (named_there c.self.inside.index.ids.keys c.args.self.now c.args.event.now c.alike-places.result.now found) ∙ sym c.is_named_at.ensures ∙ c.if-not-is_named_at.true)

pub returns-then-is_among : goal.returns-then-is_among
returns-then-is_among c =
    let found = (ids_found c.self.inside.index.ids c.args.self.now c.alike-places.result.now _ c.args.event.now.id c.alike-places.ensures c.id.ensures.value (subst (λ (es : List Content). IsIndex (hash_places c.self.inside.index.ids.places) (has_hash c.self.inside.index.ids.keys) es) c.self.view_is c.self.invariant.ids.ids)) in
    stands_known c.self.inside.index.ids.keys c.args.self.now c.args.event.now c.alike-places.result.now found
    (sym (named_there c.self.inside.index.ids.keys c.args.self.now c.args.event.now c.alike-places.result.now found) ∙ sym c.is_named_at.ensures ∙ c.if-not-is_named_at.false) (sym c.is_among.ensures ∙ c.if-is_among.true)

pub returns-else-is_among : goal.returns-else-is_among
returns-else-is_among c =
    let found = (ids_found c.self.inside.index.ids c.args.self.now c.alike-places.result.now _ c.args.event.now.id c.alike-places.ensures c.id.ensures.value (subst (λ (es : List Content). IsIndex (hash_places c.self.inside.index.ids.places) (has_hash c.self.inside.index.ids.keys) es) c.self.view_is c.self.invariant.ids.ids)) in
    stands_taken c.self.inside.index.ids.keys c.args.self.now c.args.event.now c.alike-places.result.now found
    (sym (named_there c.self.inside.index.ids.keys c.args.self.now c.args.event.now c.alike-places.result.now found) ∙ sym c.is_named_at.ensures ∙ c.if-not-is_named_at.false) (sym c.is_among.ensures ∙ c.if-is_among.false)
