-- The places of the transformations that take an item in lead to the parts of one of them that do.
use Rattle.std.proofs.Common.{◌≡◌, ◌&&◌, ◌||◌, ℕ, Bool, true, false, List, [], ◌∷◌, Option, Some, None, refl, sym, ap, ◌∙◌}
use Rattle.std.specs.Bool.{Decides}
use Rattle.std.specs.List.{list_any, slice_get}
use Rattle.std.proofs.lemmas.Bool.Decides.{Decides-like, Decides-and}
use Rattle.event_json.specs.Events.{Content}
use Rattle.trace_core.specs.PairTests.{takes_in, same_id}
use Rattle.trace_core.specs.Pairs.{make_id}
use Rattle.trace_core.specs.Parts.{TakesInAsPart}
use Rattle.trace_core.specs.Places.{places_where, takes_item, at_place, has_part}
use Rattle.trace_core.proofs.Booleans.{list_any-same}
use Rattle.trace_core.proofs.PairTestsDecide.{any_decides, takes_decides, same_id_decides}
use Rattle.trace_core.proofs.PlaceLists.{any_at_places}
use Rattle.trace_core.proofs.RelatedPlaces.{ins_listed}

-- without an id nothing is joined
pub none_joined : (events : List Content) (item : List ℕ) (o : Option (List ℕ)) → o ≡ None → false ≡ list_any (λ e. takes_in item e.body && same_id (make_id e.body) o) events
none_joined [] item o none = refl
none_joined (e ∷ es) item o none = none_joined es item o none ∙ ap (λ b. b || list_any (λ f. takes_in item f.body && same_id (make_id f.body) o) es)
    (sym (ap (λ (p : Option (List ℕ)). takes_in item e.body && same_id (make_id e.body) p) none ∙ and_no (takes_in item e.body) (make_id e.body)))
  where
    and_no : (b : Bool) (id : Option (List ℕ)) → (b && same_id id None) ≡ false
    and_no false id = refl
    and_no true None = refl
    and_no true (Some i) = refl

module _ (events : List Content) (id item : List ℕ) where
  -- a part that takes the item in stands at one of the places of its takers
  pub at_takers : (places : List ℕ) → places ≡ places_where (takes_item item) events
      → list_any (λ k. at_place (has_part id) (slice_get events k)) places ≡ list_any (λ e. takes_in item e.body && has_part id e) events
  at_takers places are =
      ap (list_any (λ k. at_place (has_part id) (slice_get events k))) are
      ∙ any_at_places (takes_item item) (has_part id) events
      ∙ list_any-same (λ e. takes_item item e && has_part id e) (λ e. takes_in item e.body && has_part id e) (λ e. ap (λ b. b && has_part id e) (ins_listed item e.body)) events

  part_decides : (e : Content) → Decides (has_part id e) (make_id e.body ≡ Some id)
  part_decides e = Decides-like _ (λ (own, first, second). first ∙ sym second) (λ is. (id, is, refl)) (same_id_decides (make_id e.body) (Some id))

  pub inputs_decide : (b : Bool) → b ≡ list_any (λ e. takes_in item e.body && has_part id e) events → Decides b (TakesInAsPart events id item)
  inputs_decide b is =
      let decides = any_decides _ _ (λ e. Decides-like _ (λ (takes, part). (part, takes)) (λ (part, takes). (takes, part)) (Decides-and _ _ (takes_decides item e.body) (part_decides e))) events in
      (λ h. decides.0 (sym is ∙ h), λ h. is ∙ decides.1 h)
