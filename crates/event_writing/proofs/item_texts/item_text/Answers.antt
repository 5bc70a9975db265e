use Rattle.std.proofs.Common.{◌∙◌, ap}
use Rattle.std.proofs.lemmas.Result.{IfOk-weaker}
use Rattle.percent_encoding.specs.Percent.{percent_encode}
use Rattle.epc_core.specs.Spellings.{sgtin_link}
use Rattle.event_writing.specs.declared.item_texts.TheConstants.{RESERVED}
use Rattle.event_writing.proofs.Keys.{item_of_form, other_of_form, sscc_of_form}
use Rattle.event_writing.proofs.item_texts.item_text.Goals as goal

pub returns-in-Item-clause-text : goal.returns-in-Item-clause-text
returns-in-Item-clause-text c =
    IfOk-weaker c.item_link.result _ _
    (λ t is. item_of_form c.form.result.now _ c.in-Item.gtin c.in-Item.serial _ c.in-Item.is c.form.ensures.key c.form.ensures.form
    (is ∙ ap (λ bytes. sgtin_link c.in-Item.gtin (percent_encode RESERVED bytes)) c.as_bytes.ensures.bytes))
    c.item_link.ensures

pub returns-in-Sscc-clause-text : goal.returns-in-Sscc-clause-text
returns-in-Sscc-clause-text c =
    IfOk-weaker c.sscc_link.result _ _ (λ t is. sscc_of_form c.form.result.now _ c.in-Sscc.digits _ c.in-Sscc.is c.form.ensures.key is) c.sscc_link.ensures

pub returns-in-Other-clause-text : goal.returns-in-Other-clause-text
returns-in-Other-clause-text c =
    IfOk-weaker c.from_str.result _ _
    (λ t is. other_of_form c.form.result.now _ c.in-Other.text _ c.in-Other.is c.form.ensures.key (is ∙ c.as_str.ensures.text))
    c.from_str.ensures.ok
