use Rattle.std.proofs.Common.{subst}
use Rattle.report_core.specs.FirstPlaces.{TellsEvent}
use Rattle.report_core.proofs.PackingsFound.{no_packing, packing_found, packing_there}
use Rattle.report_core.proofs.packing_events.packing_of.Goals as goal

pub returns-in_default : goal.returns-in_default
returns-in_default c =
    let s = c.args.containers.now.site.now in
    no_packing s.events c.args.containers.now.number c.args.containers.now.packings.now c.requires c.args.item.now c.args.into.now c.places_under.result.now c.places_under.ensures c.in_default.ensures

pub returns-in_default-2 : goal.returns-in_default-2
returns-in_default-2 c =
    let s = c.args.containers.now.site.now in
    absurd (packing_there s.events c.args.containers.now.number c.args.containers.now.packings.now c.requires c.args.item.now c.args.into.now c.places_under.result.now c.places_under.ensures
    c.in-Some.first c.in-Some.ensures (subst (TellsEvent s.events c.in-Some.first) c.in_default-2.is c.in_ok-event.ensures))

pub returns : goal.returns
returns c =
    let s = c.args.containers.now.site.now in
    packing_found s.events c.args.containers.now.number c.args.containers.now.packings.now c.requires c.args.item.now c.args.into.now c.places_under.result.now c.places_under.ensures
    c.in-Some.first c.in-Some.ensures c.in-Some-2.event c.in_ok-into.into (subst (TellsEvent s.events c.in-Some.first) c.in-Some-2.is c.in_ok-event.ensures) c.in_ok-into.ensures
