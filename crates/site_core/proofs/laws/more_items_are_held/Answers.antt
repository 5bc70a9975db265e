use Rattle.site_core.proofs.HeldLaws.{held_one, held_several, no_empty_after}
use Rattle.site_core.proofs.laws.more_items_are_held.Goals as goal

pub returns : goal.returns
returns c = record { one = held_one; several = held_several; no_empty = no_empty_after }
