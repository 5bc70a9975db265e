use Rattle.std.proofs.Common.{◌≡◌, ◌↔◌, ◌∙◌, List, None, Some, slice_get, subst, sym}
use Rattle.std.specs.List.{Contains}
use Rattle.trace_core.specs.Chains.{sites_at}
use Rattle.trace_core.specs.Pairs.{IsCarriedWith, IsStrictlyAscending}
use Rattle.trace_core.specs.declared.pairs.Pair.{Pair}
use Rattle.report_core.specs.FirstPlaces.{Relating, TellsEvent}
use Rattle.report_core.specs.Leaving.{AreUnderEach, IsLeftWith, IsWantedItem}
use Rattle.report_core.specs.Sources.{PutsIn}
use Rattle.report_core.proofs.EventsRelating.{carrier_places, own_places}
use Rattle.report_core.proofs.Leavings.{carrier_there, leaving_found, nothing_left}
use Rattle.report_core.proofs.relating.RelatingEvents.leaving_of.Goals as goal

pub carriers_of-requires : goal.carriers_of-requires
carriers_of-requires c =
    let own = sites_at c.self.inside.sites.now in
    let s = c.args.site.now in
    let number = c.args.number in
    let item = c.args.shipment.now.item in
    let stands : slice_get own number ≡ Some s = subst (λ (r : Relating). slice_get r.sites number ≡ Some s) (sym c.self.view_is) c.requires.site in
    let (asked, ships) = subst (λ (r : Relating). IsWantedItem r.wanted item) (sym c.self.view_is) c.requires.wanted in
    own_places own number s stands PutsIn c.self.inside.packings (c.self.invariant.put ships)

pub returns-in_default : goal.returns-in_default
returns-in_default c =
    let own = sites_at c.self.inside.sites.now in
    let s = c.args.site.now in
    let number = c.args.number in
    let item = c.args.shipment.now.item in
    let stands : slice_get own number ≡ Some s = subst (λ (r : Relating). slice_get r.sites number ≡ Some s) (sym c.self.view_is) c.requires.site in
    let (asked, ships) = subst (λ (r : Relating). IsWantedItem r.wanted item) (sym c.self.view_is) c.requires.wanted in
    let are = carrier_places own number s stands c.self.inside.wanted.items c.self.inside.sent c.self.invariant.off (c.self.invariant.all ships) item asked in
    let carriers = c.as_slice.result.now in
    let places = c.as_slice-2.result.now in
    let exact = subst (λ (ps : List Pair). (p : Pair) → Contains ps p ↔ ((p.site ≡ s.me) × IsCarriedWith s.events p.item item)) (sym c.as_slice.ensures) c.in_ok-carriers.ensures.all in
    let ascending = subst IsStrictlyAscending (sym c.as_slice.ensures) c.in_ok-carriers.ensures.ascending in
    let gathered = subst (AreUnderEach c.self.inside.sent carriers) (sym c.as_slice-2.ensures.value) c.in_ok-places.ensures in
    nothing_left s number item c.args.shipment.now.destination c.self.inside.sent carriers places are ascending exact gathered c.in_default.ensures

pub returns-in_default-left_with : goal.returns-in_default-left_with
returns-in_default-left_with c =
    let own = sites_at c.self.inside.sites.now in
    let s = c.args.site.now in
    let number = c.args.number in
    let item = c.args.shipment.now.item in
    let stands : slice_get own number ≡ Some s = subst (λ (r : Relating). slice_get r.sites number ≡ Some s) (sym c.self.view_is) c.requires.site in
    let (asked, ships) = subst (λ (r : Relating). IsWantedItem r.wanted item) (sym c.self.view_is) c.requires.wanted in
    let are = carrier_places own number s stands c.self.inside.wanted.items c.self.inside.sent c.self.invariant.off (c.self.invariant.all ships) item asked in
    let carriers = c.as_slice.result.now in
    let places = c.as_slice-2.result.now in
    let exact = subst (λ (ps : List Pair). (p : Pair) → Contains ps p ↔ ((p.site ≡ s.me) × IsCarriedWith s.events p.item item)) (sym c.as_slice.ensures) c.in_ok-carriers.ensures.all in
    let ascending = subst IsStrictlyAscending (sym c.as_slice.ensures) c.in_ok-carriers.ensures.ascending in
    let gathered = subst (AreUnderEach c.self.inside.sent carriers) (sym c.as_slice-2.ensures.value) c.in_ok-places.ensures in
    let left = subst (λ (ps : List Pair). IsLeftWith c.self.inside.sent (record { site = number; event = c.in-Some.event }) item ps None) (c.as_slice-3.ensures ∙ sym c.as_slice.ensures) c.in_default-left_with.ensures in
    absurd (carrier_there s number item c.args.shipment.now.destination c.self.inside.sent carriers places are ascending exact gathered
    c.in-Some.event c.in-Some.ensures left)

pub returns : goal.returns
returns c =
    let own = sites_at c.self.inside.sites.now in
    let s = c.args.site.now in
    let number = c.args.number in
    let item = c.args.shipment.now.item in
    let stands : slice_get own number ≡ Some s = subst (λ (r : Relating). slice_get r.sites number ≡ Some s) (sym c.self.view_is) c.requires.site in
    let (asked, ships) = subst (λ (r : Relating). IsWantedItem r.wanted item) (sym c.self.view_is) c.requires.wanted in
    let are = carrier_places own number s stands c.self.inside.wanted.items c.self.inside.sent c.self.invariant.off (c.self.invariant.all ships) item asked in
    let carriers = c.as_slice.result.now in
    let places = c.as_slice-2.result.now in
    let exact = subst (λ (ps : List Pair). (p : Pair) → Contains ps p ↔ ((p.site ≡ s.me) × IsCarriedWith s.events p.item item)) (sym c.as_slice.ensures) c.in_ok-carriers.ensures.all in
    let ascending = subst IsStrictlyAscending (sym c.as_slice.ensures) c.in_ok-carriers.ensures.ascending in
    let gathered = subst (AreUnderEach c.self.inside.sent carriers) (sym c.as_slice-2.ensures.value) c.in_ok-places.ensures in
    let carrier = c.in-Some-left_with.carrier.now in
    let left = subst (λ (ps : List Pair). IsLeftWith c.self.inside.sent (record { site = number; event = c.in-Some.event }) item ps (Some carrier)) (c.as_slice-3.ensures ∙ sym c.as_slice.ensures) c.in-Some-left_with.ensures in
    leaving_found s number item c.args.shipment.now.destination c.self.inside.sent carriers places are ascending exact gathered
    c.in-Some.event c.in-Some.ensures c.in-Some-2.event carrier c.in_ok-carrier.carrier (subst (TellsEvent s.events c.in-Some.event) c.in-Some-2.is c.in_ok-event.ensures) left c.in_ok-carrier.ensures
