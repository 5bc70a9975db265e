use Rattle.item_spellings.proofs.Naming.{elements_name_items}
use Rattle.item_spellings.proofs.laws.elements_name_items.Goals as goal

pub returns : goal.returns
returns c = elements_name_items
