use Rattle.std.proofs.Common.{sym, ap, ◌∙◌}
use Rattle.site_core.specs.ItemSets as set
use Rattle.site_core.proofs.ItemSets.{set_len}
use Rattle.site_core.proofs.item_sets.ItemSet.len.Goals as goal

pub returns : goal.returns
returns c = c.len.ensures.len ∙ sym (set_len c.self.inside.items c.len.ensures.ordered) ∙ ap set.len c.self.view_is
