use Rattle.std.proofs.Common.{◌≡◌, List, Some, slice_get, subst, sym}
use Rattle.std.specs.Prelude.{IsTrue}
use Rattle.trace_core.specs.Chains.{sites_at}
use Rattle.trace_core.specs.Searches.{IsFound}
use Rattle.trace_core.specs.declared.pairs.Pair.{Pair}
use Rattle.site_core.specs.ItemSets.{item_cmp}
use Rattle.report_core.specs.FirstPlaces.{Relating, TellsEvent}
use Rattle.report_core.specs.Leaving.{AreUnderEach}
use Rattle.report_core.specs.Packings.{AnswersPackings}
use Rattle.report_core.specs.Sources.{PutsIn}
use Rattle.report_core.proofs.EventsRelating.{carrier_places, own_places}
use Rattle.report_core.proofs.LiesInItems.{all_carriers}
use Rattle.report_core.proofs.ShipmentsFound.{no_shipment, packings_there, shipment_found}
use Rattle.report_core.proofs.relating.RelatingEvents.shipment_of.Goals as goal

pub packings_of-requires-clause-packings : goal.packings_of-requires-clause-packings
packings_of-requires-clause-packings c =
    let own = sites_at c.self.inside.sites.now in
    let s = c.args.site.now in
    let number = c.args.number in
    let stands : slice_get own number ≡ Some s = subst (λ (r : Relating). slice_get r.sites number ≡ Some s) (sym c.self.view_is) c.requires.site in
    let ships = subst (λ (r : Relating). IsTrue r.wanted.ships) (sym c.self.view_is) c.requires.ships in
    own_places own number s stands PutsIn c.self.inside.packings (c.self.invariant.put ships)

pub returns-in_default : goal.returns-in_default
returns-in_default c =
    let own = sites_at c.self.inside.sites.now in
    let s = c.args.site.now in
    let number = c.args.number in
    let item = c.args.to.now.item in
    let stands : slice_get own number ≡ Some s = subst (λ (r : Relating). slice_get r.sites number ≡ Some s) (sym c.self.view_is) c.requires.site in
    let ships = subst (λ (r : Relating). IsTrue r.wanted.ships) (sym c.self.view_is) c.requires.ships in
    let asked = subst (λ (r : Relating). IsFound item_cmp r.wanted.items item) (sym c.self.view_is) c.requires.item in
    let are = carrier_places own number s stands c.self.inside.wanted.items c.self.inside.sent c.self.invariant.off (c.self.invariant.all ships) item asked in
    let put = own_places own number s stands PutsIn c.self.inside.packings (c.self.invariant.put ships) in
    let found = c.in_ok-found.found in
    let exact = all_carriers s.events number c.self.inside.packings put s.me item found c.in_ok-found.ensures in
    let places = c.as_slice-2.result.now in
    let gathered = subst (λ (ps : List Pair). AreUnderEach c.self.inside.sent ps places) c.as_slice.ensures (subst (AreUnderEach c.self.inside.sent c.as_slice.result.now) (sym c.as_slice-2.ensures.value) c.in_ok-places.ensures) in
    no_shipment s number item c.args.to.now.site c.self.inside.sent found.pairs places are c.in_ok-found.ensures.ascending exact gathered c.in_default.ensures

pub returns-in_default-2 : goal.returns-in_default-2
returns-in_default-2 c =
    let own = sites_at c.self.inside.sites.now in
    let s = c.args.site.now in
    let number = c.args.number in
    let item = c.args.to.now.item in
    let stands : slice_get own number ≡ Some s = subst (λ (r : Relating). slice_get r.sites number ≡ Some s) (sym c.self.view_is) c.requires.site in
    let ships = subst (λ (r : Relating). IsTrue r.wanted.ships) (sym c.self.view_is) c.requires.ships in
    let asked = subst (λ (r : Relating). IsFound item_cmp r.wanted.items item) (sym c.self.view_is) c.requires.item in
    let are = carrier_places own number s stands c.self.inside.wanted.items c.self.inside.sent c.self.invariant.off (c.self.invariant.all ships) item asked in
    let put = own_places own number s stands PutsIn c.self.inside.packings (c.self.invariant.put ships) in
    let found = c.in_ok-found.found in
    let exact = all_carriers s.events number c.self.inside.packings put s.me item found c.in_ok-found.ensures in
    let places = c.as_slice-2.result.now in
    let gathered = subst (λ (ps : List Pair). AreUnderEach c.self.inside.sent ps places) c.as_slice.ensures (subst (AreUnderEach c.self.inside.sent c.as_slice.result.now) (sym c.as_slice-2.ensures.value) c.in_ok-places.ensures) in
    let answer = subst (AnswersPackings s.events c.self.inside.sent (record { site = number; event = c.in-Some.first }) item found.pairs) c.in_default-2.is c.in_ok-packings.ensures in
    absurd (packings_there s number item c.args.to.now.site c.self.inside.sent found.pairs places are c.in_ok-found.ensures.ascending exact gathered c.in-Some.first c.in-Some.ensures answer)

pub returns : goal.returns
returns c =
    let own = sites_at c.self.inside.sites.now in
    let s = c.args.site.now in
    let number = c.args.number in
    let item = c.args.to.now.item in
    let stands : slice_get own number ≡ Some s = subst (λ (r : Relating). slice_get r.sites number ≡ Some s) (sym c.self.view_is) c.requires.site in
    let ships = subst (λ (r : Relating). IsTrue r.wanted.ships) (sym c.self.view_is) c.requires.ships in
    let asked = subst (λ (r : Relating). IsFound item_cmp r.wanted.items item) (sym c.self.view_is) c.requires.item in
    let are = carrier_places own number s stands c.self.inside.wanted.items c.self.inside.sent c.self.invariant.off (c.self.invariant.all ships) item asked in
    let put = own_places own number s stands PutsIn c.self.inside.packings (c.self.invariant.put ships) in
    let found = c.in_ok-found.found in
    let exact = all_carriers s.events number c.self.inside.packings put s.me item found c.in_ok-found.ensures in
    let places = c.as_slice-2.result.now in
    let gathered = subst (λ (ps : List Pair). AreUnderEach c.self.inside.sent ps places) c.as_slice.ensures (subst (AreUnderEach c.self.inside.sent c.as_slice.result.now) (sym c.as_slice-2.ensures.value) c.in_ok-places.ensures) in
    let answer = subst (AnswersPackings s.events c.self.inside.sent (record { site = number; event = c.in-Some.first }) item found.pairs) c.in-Some-2.is c.in_ok-packings.ensures in
    shipment_found s number item c.args.to.now.site c.self.inside.sent found.pairs places are c.in_ok-found.ensures.ascending exact gathered c.in-Some.first c.in-Some.ensures
    c.in-Some-3.event c.in-Some-2.packings (subst (TellsEvent s.events c.in-Some.first) c.in-Some-3.is c.in_ok-event.ensures) answer
