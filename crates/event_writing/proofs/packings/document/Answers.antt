use Rattle.std.proofs.Common.{sym, ap, ◌∙◌, subst}
use Rattle.std.proofs.lemmas.Result.{IfOk-weaker}
use Rattle.epc_core.specs.Spellings.{Spells}
use Rattle.serde_json.specs.Data.{array}
use Rattle.serde_json.specs.View.{items_of}
use Rattle.serde_json.proofs.Views.{view-Array}
use Rattle.event_writing.specs.Packings.{document_value}
use Rattle.event_writing.proofs.packings.document.Goals as goal

pub returns : goal.returns
returns c =
    let texts = c.in_ok-item_values.ensures in
    let event = c.in_ok-event.ensures texts.0 (view-Array c.in_ok-item_values.field-0 ∙ ap (λ ds. array (items_of ds)) texts.1) in
    IfOk-weaker c.document_value.result _ _
    (λ v is. record {
      named = c.as_str.result.now;
      texts = texts.0;
      parent_named = subst (λ t. Spells t c.args.parent.now) (sym c.as_str.ensures.value) c.in_ok-parent.ensures.spelled;
      children_named = texts.2;
      is = is ∙ ap (document_value c.args.time.now) event;
    })
    c.document_value.ensures
