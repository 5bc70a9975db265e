use Rattle.document_convert.proofs.LotLemmas.{gtin_of_form}
use Rattle.document_convert.proofs.unit_lots.gtin_of_unit.Goals as goal

pub returns-in_ok-digits_text-in-Item : goal.returns-in_ok-digits_text-in-Item
returns-in_ok-digits_text-in-Item c =
    gtin_of_form c.form.result.now _ c.in-Item.gtin c.in-Item.serial _ c.in-Item.is c.form.ensures.key c.form.ensures.form c.in_ok-digits_text-in-Item.ensures
