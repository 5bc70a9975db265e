use Rattle.std.proofs.Common.{◌≡◌, ◌≤◌, ◌+◌, count_by, drop}
use Rattle.serde_json.specs.View.{items_view}
use Rattle.event_json.specs.Untraced.{in_order}
use Rattle.document_convert.specs.Links.{link_of}
use Rattle.document_convert.specs.Respelled.{spells_otherwise_by}
use Rattle.document_convert.proofs.accounts.linked.Given as goal

-- those so far and those of the rest are all, and those so far are no more than the events so far
abbrev pub invariant-loop-event : goal.invariant-loop-event
invariant-loop-event l =
    (l.count + count_by (spells_otherwise_by link_of) (in_order (items_view (drop l.event-index l.events)))
    ≡ count_by (spells_otherwise_by link_of) (in_order (items_view l.events)))
    × (l.count ≤ l.event-index)
