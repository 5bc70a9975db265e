-- The first shipments out of the traced sites, by the places that stand under what carried an item.
use Rattle.std.proofs.Common.{◌≡◌, ◌↔◌, inl, inr, ℕ, ◌<◌, List, [], length, get_or, slice_get, Option, Some, None, sym, ap, ◌∙◌, subst, Contains, arith}
use Rattle.std.specs.List.{All}
use Rattle.std.proofs.lemmas.List.{get_or-map, get_or_default, get_or_past, length-map}
use Rattle.std.proofs.lemmas.Option.{slice_get-get_or}
use Rattle.event_json.specs.declared.bodies.Body.{Body}
use Rattle.event_json.specs.declared.bodies.Body.TheVariants.{Note, Ship, Make, Pack}
use Rattle.trace_core.specs.Pairs.{IsCarriedWith, IsStrictlyAscending}
use Rattle.trace_core.specs.Sites.{SiteEvents}
use Rattle.trace_core.specs.declared.pairs.Pair.{Pair}
use Rattle.trace_core.proofs.Members.{contains_none}
use Rattle.trace_core.proofs.NumberLists.{some_is}
use Rattle.site_core.specs.Records.{Record, fresh}
use Rattle.site_recovery.specs.Laws.{captured_of}
use Rattle.site_recovery.specs.Looks.{world_of}
use Rattle.site_recovery.proofs.Exact.{within_or_past}
use Rattle.report_core.specs.FirstPlaces.{IsOneOf, TellsEvent}
use Rattle.report_core.specs.Leaving.{AnswersLeaving, AnswersOutside, AreUnderEach, IsLeftWith, IsShippedOut, LeavesFor}
use Rattle.report_core.specs.Outside.{AreOutsideOf, ShipsOut}
use Rattle.report_core.specs.OutsideEvents.{IsCarrierAt, ShipsOutAt}
use Rattle.report_core.specs.Sources.{AreItemPlaces, Index, ShipsItself}
use Rattle.report_core.specs.TrailEvents.{IsFirstOrNone, StandsAt}
use Rattle.report_core.specs.declared.makers.EventPlace.{EventPlace}
use Rattle.report_core.specs.declared.outside.OutsideShipment.{OutsideShipment}
use Rattle.report_core.specs.declared.outside_events.OutsideEvent.{OutsideEvent}
use Rattle.report_core.specs.declared.trail_events.CapturedEvent.{CapturedEvent}
use Rattle.report_core.proofs.CarriersShipped.{carrier_is, carrier_went, first_went, nothing_went}

-- a shipment of the item there is one of the item that goes there
out_parts : (item destination : List ℕ) (b : Body) → ShipsOut item destination b ↔ (ShipsItself item b × LeavesFor destination b)
out_parts item destination (Note items) = (λ out. absurd out, λ h. absurd h.0)
out_parts item destination (Ship items sites outside) = (λ out. out, λ h. h)
out_parts item destination (Make id ins outs) = (λ out. absurd out, λ h. absurd h.0)
out_parts item destination (Pack action parent children) = (λ out. absurd out, λ h. absurd h.0)

module _ (s : SiteEvents) (number : ℕ) (item destination : List ℕ) (sent : Index) (carriers : List Pair) (places : List EventPlace)
    (are : (i : List ℕ) → IsCarriedWith s.events i item → AreItemPlaces ShipsItself s.events number sent i) (ascending : IsStrictlyAscending carriers)
    (exact : (p : Pair) → Contains carriers p ↔ ((p.site ≡ s.me) × IsCarriedWith s.events p.item item)) (gathered : AreUnderEach sent carriers places) where
  -- where none is found nothing went there
  pub nothing_left : IsFirstOrNone (IsOneOf (λ p. (number ≡ p.site) × StandsAt s.events (LeavesFor destination) p.event) places) None → AnswersLeaving s.events item destination None
  nothing_left = nothing_went (λ c. ShipsOut c destination) (LeavesFor destination) (λ c. out_parts c destination) s number item sent carriers places are ascending exact gathered

  module _ (n : ℕ) (first : IsFirstOrNone (IsOneOf (λ p. (number ≡ p.site) × StandsAt s.events (LeavesFor destination) p.event) places) (Some n)) where
    -- the one that is found has a carrier
    pub carrier_there : IsLeftWith sent (record { site = number; event = n }) item carriers None → ⊥
    carrier_there = carrier_went (λ c. ShipsOut c destination) (LeavesFor destination) (λ c. out_parts c destination) s number item sent carriers places are ascending exact gathered n first

    pub leaving_found : (x : CapturedEvent) (carrier copy : List ℕ) → TellsEvent s.events n (Some x) → IsLeftWith sent (record { site = number; event = n }) item carriers (Some carrier) → copy ≡ carrier
        → AnswersLeaving s.events item destination (Some (record { event = x; carrier = copy }))
    leaving_found x carrier copy told left same = (
      n,
      first_went (λ c. ShipsOut c destination) (LeavesFor destination) (λ c. out_parts c destination) s number item sent carriers places are ascending exact gathered n first,
      told,
      subst (IsCarrierAt s.events item destination n) (sym same)
          (carrier_is (λ c. ShipsOut c destination) (LeavesFor destination) (λ c. out_parts c destination) s number item sent carriers places are ascending exact gathered n first carrier left),
    )

-- by the site of a shipment
pub of_its_site : (sites : List SiteEvents) (x : OutsideShipment) (s : SiteEvents) → slice_get sites x.site ≡ Some s → (found : Option OutsideEvent) → AnswersLeaving s.events x.item x.destination found → AnswersOutside sites x found
of_its_site sites x s stands None none = λ (t, at, (n, gone)). none n (subst (λ (u : SiteEvents). ShipsOutAt u.events x.item x.destination n) (some_is t s (sym at ∙ stands)) gone)
of_its_site sites x s stands (Some told) shows = (s, stands, shows)

-- each shipment of a report or a trace was captured by its site
pub all_shipped_out : (records : List Record) (IsOne : Pair → Type 0) (outside : List OutsideShipment) → AreOutsideOf (world_of records) IsOne outside → All (IsShippedOut (captured_of records)) outside
all_shipped_out records IsOne outside are k d below =
    let x : OutsideShipment = get_or outside k d in
    let (one, (carrier, (e, (n, within, at), ships), carried)) = (are.exact x).0 (k, below, get_or_default outside k x d below) in
    elim (within_or_past x.site (length records)) as (λ _. IsShippedOut (captured_of records) x) [
      | inl here ↦
          let s = (world_of records x.site).captured in
          let listed : x.site < length (captured_of records) = omega (arith, here, length-map records (λ (r : Record). r.captured)) in
          let there : slice_get (captured_of records) x.site ≡ Some s = slice_get-get_or (captured_of records) x.site s listed ∙ ap Some (get_or-map (λ (r : Record). r.captured) records x.site (fresh [] x.site) s here) in
          (s, there, (n, (e, slice_get-get_or s.events n e within ∙ ap Some at, (carrier, ships, carried))))
      | inr past ↦
          let nothing : (world_of records x.site).captured.events ≡ [] = ap (λ (z : Record). z.captured.events) (get_or_past records x.site (fresh [] x.site) past) in
          absurd (contains_none e (subst (λ es. Contains es e) nothing (n, within, at)))
    ]
