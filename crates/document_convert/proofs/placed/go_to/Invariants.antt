use Rattle.std.proofs.Common.{◌≡◌, drop}
use Rattle.std.specs.List.{list_any}
use Rattle.serde_json.specs.View.{items_view}
use Rattle.event_json.specs.Untraced.{in_order}
use Rattle.document_convert.specs.Placed.{asked_of, goes_to}
use Rattle.document_convert.proofs.placed.go_to.Given as goal

-- one is so, where one of the rest is
abbrev pub invariant-loop-member : goal.invariant-loop-member
invariant-loop-member l =
    list_any (goes_to (asked_of l.sites l.fn.question)) (in_order (items_view (drop l.member-index l.list)))
    ≡ list_any (goes_to (asked_of l.sites l.fn.question)) (in_order (items_view l.list))
