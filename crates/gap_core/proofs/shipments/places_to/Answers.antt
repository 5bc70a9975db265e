use Rattle.std.proofs.Common.{[], arith}
use mathlib.Core.Logic.{inl}
use Rattle.std.specs.List.{Contains}
use Rattle.gap_core.specs.Shipments.{IsPlaceTo}
use Rattle.gap_core.proofs.Additions.{more_before}
use Rattle.gap_core.proofs.ShippedItems.{all_places_to}
use Rattle.gap_core.proofs.shipments.places_to.Goals as goal

pub loop-place-preserved : goal.loop-place-preserved
loop-place-preserved c =
    more_before (IsPlaceTo c.args.site.now.events (inl c.args.to)) c.loop-place.place (Contains []) (Contains c.loop-place.places) (Contains c.note_place.new.places) c.loop-place.invariant c.in_ok-note_place.ensures

pub returns : goal.returns
returns c = all_places_to c.args.site.now.events (inl c.args.to) c.loop-place.place c.loop-place.places (omega (arith, c.loop-place-test.false, c.len-place-end.ensures)) c.loop-place.invariant
