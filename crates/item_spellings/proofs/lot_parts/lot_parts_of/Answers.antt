use Rattle.std.proofs.Common.{◌∙◌, ap}
use Rattle.item_spellings.specs.LotParts.{lot_of_link}
use Rattle.item_spellings.proofs.LotParts.{of_label, of_link, of_unit}
use Rattle.item_spellings.proofs.lot_parts.lot_parts_of.Goals as goal

pub returns-in-Item : goal.returns-in-Item
returns-in-Item c = of_unit c.form.result.now _ _ _ c.in-Item.is c.form.ensures.key

pub returns-in-Sscc : goal.returns-in-Sscc
returns-in-Sscc c = of_label c.form.result.now _ _ c.in-Sscc.is c.form.ensures.key

pub returns-in-Other : goal.returns-in-Other
returns-in-Other c = of_link c.form.result.now _ _ _ c.in-Other.is c.form.ensures.key (c.lot_of_link.ensures ∙ ap lot_of_link c.as_str.ensures.text)
