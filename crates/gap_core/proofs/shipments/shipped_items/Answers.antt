use Rattle.std.proofs.Common.{[], arith}
use Rattle.std.proofs.lemmas.List.{get_or_default}
use Rattle.gap_core.specs.Shipments.{IsShippedOnce}
use Rattle.gap_core.proofs.Notings.{all_noted, one_more_noted}
use Rattle.gap_core.proofs.ShippedItems.{all_shipped}
use Rattle.gap_core.proofs.shipments.shipped_items.Goals as goal

pub loop-place-preserved : goal.loop-place-preserved
loop-place-preserved c =
    one_more_noted (IsShippedOnce c.args.site.now.events) c.args.places.now c.loop-place.place-index _ c.loop-place-test.true
    (get_or_default c.args.places.now c.loop-place.place-index _ _ (omega (arith, c.loop-place-test.true))) [] c.loop-place.items c.note_shipped.new.items c.loop-place.invariant c.in_ok-note_shipped.ensures

pub returns : goal.returns
returns c =
    all_shipped c.args.site.now.events c.args.places.now c.loop-place.items
    (all_noted (IsShippedOnce c.args.site.now.events) c.args.places.now c.loop-place.place-index c.loop-place-test.false [] c.loop-place.items c.loop-place.invariant)
