use Rattle.std.proofs.Common.{sym, ap, ◌∙◌}
use Rattle.site_core.specs.ItemSets as set
use Rattle.site_core.proofs.ItemSets.{set_found, set_removed}
use Rattle.site_core.proofs.item_sets.ItemSet.remove.Goals as goal

pub returns-clause-was : goal.returns-clause-was
returns-clause-was c =
    c.remove.ensures.test ∙ sym (set_found c.self.inside.items c.args.item.now c.len-length.ensures.ordered)
    ∙ ap (λ s. set.contains s c.args.item.now) c.self.view_is

pub returns-clause-left : goal.returns-clause-left
returns-clause-left c =
    set_removed c.self.inside.items c.remove.new.self c.args.item.now c.len-length.ensures.ordered c.remove.ensures.keys
    ∙ ap (λ s. set.remove s c.args.item.now) c.self.view_is
