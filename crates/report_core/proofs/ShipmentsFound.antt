-- The first shipments of items to a site, by the places that stand under what carried them.
use Rattle.std.proofs.Common.{◌≡◌, ◌↔◌, ℕ, List, Some, None, ap, ◌∙◌, Contains}
use Rattle.std.proofs.lemmas.Option.{slice_get-get_or}
use Rattle.event_json.specs.declared.bodies.Body.{Body}
use Rattle.event_json.specs.declared.bodies.Body.TheVariants.{Note, Ship, Make, Pack}
use Rattle.trace_core.specs.Pairs.{IsCarriedWith, IsStrictlyAscending, Ships}
use Rattle.trace_core.specs.Sites.{SiteEvents}
use Rattle.trace_core.specs.declared.pairs.Pair.{Pair}
use Rattle.report_core.specs.FirstPlaces.{AnswersShipment, Goes, IsOneOf, TellsEvent}
use Rattle.report_core.specs.Leaving.{AreUnderEach}
use Rattle.report_core.specs.Packings.{AnswersPackings}
use Rattle.report_core.specs.Sources.{AreItemPlaces, Index, ShipsItself}
use Rattle.report_core.specs.TrailEvents.{IsFirstOrNone, StandsAt}
use Rattle.report_core.specs.declared.makers.EventPlace.{EventPlace}
use Rattle.report_core.specs.declared.packing_events.PackingEvent.{PackingEvent}
use Rattle.report_core.specs.declared.trail_events.CapturedEvent.{CapturedEvent}
use Rattle.report_core.specs.declared.trail_events.StepEvents.TheVariants.{Shipped}
use Rattle.report_core.proofs.CarriersShipped.{carrier_is, carrier_went, first_went, nothing_went}

-- a shipment of the item to the site is one of the item that goes there
ship_parts : (item : List ℕ) (to : ℕ) (b : Body) → Ships item to b ↔ (ShipsItself item b × Goes to b)
ship_parts item to (Note items) = (λ ships. absurd ships, λ h. absurd h.0)
ship_parts item to (Ship items sites outside) = (λ ships. ships, λ h. h)
ship_parts item to (Make id ins outs) = (λ ships. absurd ships, λ h. absurd h.0)
ship_parts item to (Pack action parent children) = (λ ships. absurd ships, λ h. absurd h.0)

module _ (s : SiteEvents) (number : ℕ) (item : List ℕ) (to : ℕ) (sent : Index) (carriers : List Pair) (places : List EventPlace)
    (are : (i : List ℕ) → IsCarriedWith s.events i item → AreItemPlaces ShipsItself s.events number sent i) (ascending : IsStrictlyAscending carriers)
    (exact : (p : Pair) → Contains carriers p ↔ ((p.site ≡ s.me) × IsCarriedWith s.events p.item item)) (gathered : AreUnderEach sent carriers places) where
  -- where none is found nothing was shipped there
  pub no_shipment : IsFirstOrNone (IsOneOf (λ p. (number ≡ p.site) × StandsAt s.events (Goes to) p.event) places) None → AnswersShipment s.events item to None
  no_shipment none (carrier, (n, e, below, at, ships), carried) =
      nothing_went (λ c. Ships c to) (Goes to) (λ c. ship_parts c to) s number item sent carriers places are ascending exact gathered none n
      (e, slice_get-get_or s.events n e below ∙ ap Some at, (carrier, ships, carried))

  module _ (n : ℕ) (first : IsFirstOrNone (IsOneOf (λ p. (number ≡ p.site) × StandsAt s.events (Goes to) p.event) places) (Some n)) where
    -- the one that is found has a carrier
    pub packings_there : AnswersPackings s.events sent (record { site = number; event = n }) item carriers None → ⊥
    packings_there = carrier_went (λ c. Ships c to) (Goes to) (λ c. ship_parts c to) s number item sent carriers places are ascending exact gathered n first

    pub shipment_found : (x : CapturedEvent) (packings : List PackingEvent) → TellsEvent s.events n (Some x) → AnswersPackings s.events sent (record { site = number; event = n }) item carriers (Some packings)
        → AnswersShipment s.events item to (Some (Shipped x packings))
    shipment_found x packings told (carrier, left, lead) = (
      n,
      first_went (λ c. Ships c to) (Goes to) (λ c. ship_parts c to) s number item sent carriers places are ascending exact gathered n first,
      told,
      (carrier, carrier_is (λ c. Ships c to) (Goes to) (λ c. ship_parts c to) s number item sent carriers places are ascending exact gathered n first carrier left, lead),
    )
