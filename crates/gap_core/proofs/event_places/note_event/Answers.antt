use Rattle.std.proofs.Common.{sym, subst}
use Rattle.std.specs.Result.{OnOk}
use Rattle.trace_core.specs.Chains.{sites_at}
use Rattle.gap_core.specs.Adding.{AddsTo}
use Rattle.gap_core.specs.LineEvents.{EventDoes, Holds}
use Rattle.gap_core.specs.declared.event_places.Kind.{Kind}
use Rattle.gap_core.proofs.event_places.note_event.Goals as goal

pub returns-in-FirstPacking : goal.returns-in-FirstPacking
returns-in-FirstPacking c =
    subst (λ (k : Kind). OnOk c.note_packing.result (AddsTo (Holds k c.args.index.now) (Holds k c.note_packing.new.index) (EventDoes k (sites_at c.args.sites.now) c.args.site.now c.args.wanted.now c.args.place))) (sym c.in-FirstPacking.is) c.note_packing.ensures

pub returns-in-LastShipment : goal.returns-in-LastShipment
returns-in-LastShipment c =
    subst (λ (k : Kind). OnOk c.note_shipment.result (AddsTo (Holds k c.args.index.now) (Holds k c.note_shipment.new.index) (EventDoes k (sites_at c.args.sites.now) c.args.site.now c.args.wanted.now c.args.place))) (sym c.in-LastShipment.is) c.note_shipment.ensures
