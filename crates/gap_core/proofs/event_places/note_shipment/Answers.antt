use Rattle.std.proofs.Common.{◌∙◌, sym}
use mathlib.Core.Bool.{false≢true}
use Rattle.std.proofs.lemmas.Result.{on_ok_weaker}
use Rattle.trace_core.specs.Chains.{sites_at}
use Rattle.gap_core.proofs.LineEventSteps.{no_shipment, shipment_noted, ships_there}
use Rattle.gap_core.proofs.event_places.note_shipment.Goals as goal

pub returns-then-not-ships_elsewhere : goal.returns-then-not-ships_elsewhere
returns-then-not-ships_elsewhere c =
    no_shipment (sites_at c.args.sites.now) c.args.site.now c.args.wanted.now c.args.place c.args.index.now (λ goes. false≢true (sym c.if-not-ships_elsewhere.true ∙ c.ships_elsewhere.ensures.1 goes))

pub returns : goal.returns
returns c =
    let sites = sites_at c.args.sites.now in
    on_ok_weaker c.note_sent.result
    (shipment_noted sites c.args.site.now c.args.wanted.now c.args.place c.args.index.now c.note_sent.new.index c.me.result c.in_ok-sent.sent c.me.ensures
    (λ i.
    let (there, back) = ships_there sites c.args.known.now c.requires.known c.args.at c.args.site.now c.requires.stands c.args.place c.as_slice.result.now (c.as_slice.ensures ∙ c.in_ok-places.ensures) (c.ships_elsewhere.ensures.0 c.if-not-ships_elsewhere.false) i in
    let (to, from) = c.in_ok-sent.ensures i in
    (λ h. there (to h), λ it. from (back it))))
    c.note_sent.ensures
