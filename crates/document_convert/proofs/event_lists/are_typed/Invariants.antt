use Rattle.std.proofs.Common.{◌≡◌, drop}
use Rattle.std.specs.Prelude.{is_none}
use Rattle.std.specs.List.{list_all}
use Rattle.serde_json.specs.View.{items_view}
use Rattle.event_json.specs.Untraced.{in_order}
use Rattle.document_convert.specs.Types.{missing_type}
use Rattle.document_convert.proofs.event_lists.are_typed.Given as goal

-- all are, where the rest are
abbrev pub invariant-loop-event : goal.invariant-loop-event
invariant-loop-event l =
    list_all (λ e. is_none (missing_type e)) (in_order (items_view (drop l.event-index l.list))) ≡ list_all (λ e. is_none (missing_type e)) (in_order (items_view l.list))
