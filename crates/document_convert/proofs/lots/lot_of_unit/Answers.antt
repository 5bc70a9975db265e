use Rattle.std.proofs.Common.{◌∙◌, ap}
use Rattle.item_spellings.specs.Lots.{lot_text}
use Rattle.document_convert.proofs.LotLemmas.{lot_of_form}
use Rattle.document_convert.proofs.lots.lot_of_unit.Goals as goal

pub returns-in_ok-lot_of_digits-in-Item : goal.returns-in_ok-lot_of_digits-in-Item
returns-in_ok-lot_of_digits-in-Item c =
    lot_of_form c.form.result.now _ c.in-Item.gtin c.in-Item.serial _ c.in-Item.is c.form.ensures.key c.form.ensures.form
    (c.in_ok-lot_of_digits-in-Item.ensures ∙ ap (lot_text c.in-Item.gtin) c.as_bytes.ensures.bytes)
