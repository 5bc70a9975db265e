use Rattle.query_core.proofs.Ended.{told_items_are_held}
use Rattle.query_core.proofs.laws.a_told_item_is_held.Goals as goal

pub returns : goal.returns
returns c = told_items_are_held
