use Rattle.std.proofs.Common.{◌≡◌, ◌+◌, ◌++◌, drop, map}
use Rattle.serde_json.specs.View.{view}
use Rattle.document_convert.specs.LotEvents.{lot_events, lot_events_from}
use Rattle.document_convert.specs.SeenLots.{seen_lots}
use Rattle.document_convert.proofs.lot_events.push_lot_events.Given as goal

-- those so far and those of the rest are all
abbrev pub invariant-loop-place : goal.invariant-loop-place
invariant-loop-place l =
    map view l.events.items ++ lot_events_from (view l.event) (l.place + 1) (seen_lots (drop l.place l.lots))
    ≡ map view l.initial.events.items ++ lot_events (view l.event)
