use Rattle.std.proofs.Common.{◌≡◌, ◌≤◌, ◌+◌, count_by, drop}
use Rattle.serde_json.specs.View.{items_view}
use Rattle.event_json.specs.Untraced.{in_order}
use Rattle.document_convert.specs.Placed.{asked_of, has_destination}
use Rattle.document_convert.proofs.accounts.placed.Given as goal

-- those so far and those of the rest are all, and those so far are no more than the events so far
abbrev pub invariant-loop-event : goal.invariant-loop-event
invariant-loop-event l =
    (l.count + count_by (has_destination (asked_of l.sites l.fn.question)) (in_order (items_view (drop l.event-index l.events)))
    ≡ count_by (has_destination (asked_of l.sites l.fn.question)) (in_order (items_view l.events)))
    × (l.count ≤ l.event-index)
