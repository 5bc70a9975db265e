use Rattle.site_core.proofs.ItemSets.{no_keys}
use Rattle.site_core.proofs.item_sets.ItemSet.new.Goals as goal

pub returns : goal.returns
returns c = no_keys c.new.result c.new.ensures.empty
