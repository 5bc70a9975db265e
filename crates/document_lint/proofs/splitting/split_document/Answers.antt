use Rattle.std.proofs.Common.{◌≤◌, refl, sym, ◌∙◌, arith}
use Rattle.serde_json.specs.Data.{depth}
use Rattle.serde_json.specs.Read.{max_depth}
use Rattle.serde_json.specs.View.{items_view, view}
use Rattle.document_lint.proofs.Apart.{bare_event, events_below}
use Rattle.document_lint.proofs.splitting.split_document.Goals as goal

pub documents_of-requires : goal.documents_of-requires
documents_of-requires c =
    let below = events_below (view c.in-Ok.value) (items_view c.in-Ok-event_list.list.now) c.in-Ok-event_list.ensures (sym c.has_body.ensures ∙ c.if-has_body.true) in
    let nests : depth (view c.in-Ok.value) ≤ max_depth = c.in-Ok.ensures.nests in
    omega arith

pub returns-in_ok-push : goal.returns-in_ok-push
returns-in_ok-push c =
    bare_event c.args.bytes.items c.as_slice.result.now (view c.in-Ok.value) (items_view c.in-Ok-event_list.list.now) c.new-documents.result.items c.push.new.self.items c.args.bytes c.as_slice.ensures.value
    c.in-Ok.ensures.ok c.in-Ok-event_list.ensures (sym c.has_body.ensures ∙ c.if-has_body.false) c.new-documents.ensures.items c.in_ok-push.ensures.items refl
