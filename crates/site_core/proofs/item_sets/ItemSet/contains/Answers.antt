use Rattle.std.proofs.Common.{sym, ap, ◌∙◌}
use Rattle.site_core.specs.ItemSets as set
use Rattle.site_core.proofs.ItemSets.{set_found}
use Rattle.site_core.proofs.item_sets.ItemSet.contains.Goals as goal

pub returns : goal.returns
returns c =
    c.contains.ensures ∙ sym (set_found c.self.inside.items c.args.item.now c.len-length.ensures.ordered)
    ∙ ap (λ s. set.contains s c.args.item.now) c.self.view_is
