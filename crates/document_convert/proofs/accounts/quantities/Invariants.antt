use Rattle.std.proofs.Common.{◌≡◌, drop}
use Rattle.serde_json.specs.View.{items_view, view}
use Rattle.event_json.specs.Untraced.{in_order, listed_events}
use Rattle.document_convert.specs.Accounts.{elements_from}
use Rattle.document_convert.proofs.accounts.quantities.Given as goal

-- so many, and those of the rest, are all
abbrev pub invariant-loop-event : goal.invariant-loop-event
invariant-loop-event l =
    elements_from l.count (in_order (items_view (drop l.event-index l.event-items))) ≡ elements_from 0 (listed_events (view l.document))
