use Rattle.std.proofs.Common.{◌≡◌, drop}
use Rattle.std.specs.List.{list_any}
use Rattle.serde_json.specs.View.{items_view}
use Rattle.event_json.specs.Untraced.{in_order}
use Rattle.document_convert.specs.DeclaredErrors.{is_declared}
use Rattle.document_convert.proofs.declared_errors.have_declared.Given as goal

-- one is so, where one of the rest is
abbrev pub invariant-loop-event : goal.invariant-loop-event
invariant-loop-event l = list_any is_declared (in_order (items_view (drop l.event-index l.list))) ≡ list_any is_declared (in_order (items_view l.list))
