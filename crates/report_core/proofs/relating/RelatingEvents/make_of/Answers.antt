use Rattle.std.proofs.Common.{◌≡◌, Some, slice_get, subst, sym}
use Rattle.trace_core.specs.Chains.{sites_at}
use Rattle.trace_core.specs.Searches.{IsFound}
use Rattle.site_core.specs.ItemSets.{item_cmp}
use Rattle.report_core.specs.FirstPlaces.{Relating, TellsEvent}
use Rattle.report_core.proofs.EventsRelating.{giving_there, make_found, no_make, part_there, taking_there}
use Rattle.report_core.proofs.relating.RelatingEvents.make_of.Goals as goal

pub returns-in_default : goal.returns-in_default
returns-in_default c =
    let own = sites_at c.self.inside.sites.now in
    let s = c.args.site.now in
    let number = c.args.number in
    let stands : slice_get own number ≡ Some s = subst (λ (r : Relating). slice_get r.sites number ≡ Some s) (sym c.self.view_is) c.requires.site in
    let items = c.self.inside.wanted.items in
    let asked = subst (λ (r : Relating). IsFound item_cmp r.wanted.items c.args.item.now) (sym c.self.view_is) c.requires.item in
    let asked' = subst (λ (r : Relating). IsFound item_cmp r.wanted.items c.args.made.now) (sym c.self.view_is) c.requires.made in
    no_make own number s stands items c.self.inside.taken c.self.inside.given c.self.invariant.ins c.self.invariant.outs c.args.item.now c.args.made.now asked asked' c.places_under-taken.result.now c.places_under-given.result.now
    c.places_under-taken.ensures c.places_under-given.ensures c.in_ok-firsts.firsts c.in_ok-firsts.ensures
    c.in_default.ensures

-- the first one is joined with one
pub returns-in_default-first_where : goal.returns-in_default-first_where
returns-in_default-first_where c = absurd (part_there c.args.site.now.events c.args.number c.in-Some.first c.places_under-taken.result.now c.places_under-given.result.now c.in_ok-firsts.firsts c.in_ok-firsts.ensures c.in-Some.ensures c.in_default-first_where.ensures)

-- there are such events
pub returns-in_default-2 : goal.returns-in_default-2
returns-in_default-2 c =
    let own = sites_at c.self.inside.sites.now in
    let s = c.args.site.now in
    let number = c.args.number in
    let stands : slice_get own number ≡ Some s = subst (λ (r : Relating). slice_get r.sites number ≡ Some s) (sym c.self.view_is) c.requires.site in
    let items = c.self.inside.wanted.items in
    let asked = subst (λ (r : Relating). IsFound item_cmp r.wanted.items c.args.item.now) (sym c.self.view_is) c.requires.item in
    let asked' = subst (λ (r : Relating). IsFound item_cmp r.wanted.items c.args.made.now) (sym c.self.view_is) c.requires.made in
    absurd (taking_there own number s stands items c.self.inside.taken c.self.inside.given c.self.invariant.ins c.self.invariant.outs c.args.item.now c.args.made.now asked asked' c.places_under-taken.result.now c.places_under-given.result.now
    c.places_under-taken.ensures c.places_under-given.ensures c.in_ok-firsts.firsts c.in_ok-firsts.ensures
    c.in-Some.first c.in-Some.ensures (subst (TellsEvent s.events c.in-Some.first) c.in_default-2.is c.in_ok-taken_in.ensures))

pub returns-in_default-3 : goal.returns-in_default-3
returns-in_default-3 c =
    let own = sites_at c.self.inside.sites.now in
    let s = c.args.site.now in
    let number = c.args.number in
    let stands : slice_get own number ≡ Some s = subst (λ (r : Relating). slice_get r.sites number ≡ Some s) (sym c.self.view_is) c.requires.site in
    let items = c.self.inside.wanted.items in
    let asked = subst (λ (r : Relating). IsFound item_cmp r.wanted.items c.args.item.now) (sym c.self.view_is) c.requires.item in
    let asked' = subst (λ (r : Relating). IsFound item_cmp r.wanted.items c.args.made.now) (sym c.self.view_is) c.requires.made in
    absurd (giving_there own number s stands items c.self.inside.taken c.self.inside.given c.self.invariant.ins c.self.invariant.outs c.args.item.now c.args.made.now asked asked' c.places_under-taken.result.now c.places_under-given.result.now
    c.places_under-taken.ensures c.places_under-given.ensures c.in_ok-firsts.firsts c.in_ok-firsts.ensures
    c.in-Some.first c.in-Some-first_where.part c.in-Some-first_where.ensures (subst (TellsEvent s.events c.in-Some-first_where.part) c.in_default-3.is c.in_ok-given_out.ensures))

pub returns : goal.returns
returns c =
    let own = sites_at c.self.inside.sites.now in
    let s = c.args.site.now in
    let number = c.args.number in
    let stands : slice_get own number ≡ Some s = subst (λ (r : Relating). slice_get r.sites number ≡ Some s) (sym c.self.view_is) c.requires.site in
    let items = c.self.inside.wanted.items in
    let asked = subst (λ (r : Relating). IsFound item_cmp r.wanted.items c.args.item.now) (sym c.self.view_is) c.requires.item in
    let asked' = subst (λ (r : Relating). IsFound item_cmp r.wanted.items c.args.made.now) (sym c.self.view_is) c.requires.made in
    make_found own number s stands items c.self.inside.taken c.self.inside.given c.self.invariant.ins c.self.invariant.outs c.args.item.now c.args.made.now asked asked' c.places_under-taken.result.now c.places_under-given.result.now
    c.places_under-taken.ensures c.places_under-given.ensures c.in_ok-firsts.firsts c.in_ok-firsts.ensures
    c.in-Some.first c.in-Some-first_where.part c.in-Some-2.taken_in c.in-Some-3.given_out c.in-Some.ensures c.in-Some-first_where.ensures
    (subst (TellsEvent s.events c.in-Some.first) c.in-Some-2.is c.in_ok-taken_in.ensures) (subst (TellsEvent s.events c.in-Some-first_where.part) c.in-Some-3.is c.in_ok-given_out.ensures)
