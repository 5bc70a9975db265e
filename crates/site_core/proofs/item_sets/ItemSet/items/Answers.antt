use Rattle.std.proofs.Common.{sym, ap, ◌∙◌}
use Rattle.site_core.specs.ItemSets as set
use Rattle.site_core.proofs.ItemSets.{set_items}
use Rattle.site_core.proofs.item_sets.ItemSet.items.Goals as goal

pub returns-clause-items : goal.returns-clause-items
returns-clause-items c = sym (set_items c.self.inside.items c.len-length.ensures.ordered) ∙ ap set.items c.self.view_is
