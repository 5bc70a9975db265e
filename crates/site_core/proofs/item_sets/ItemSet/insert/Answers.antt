use Rattle.std.proofs.Common.{not, sym, ap, ◌∙◌}
use Rattle.site_core.specs.ItemSets as set
use Rattle.site_core.proofs.ItemSets.{set_found, set_inserted}
use Rattle.site_core.proofs.Results.{after_fault}
use Rattle.site_core.proofs.item_sets.ItemSet.insert.Goals as goal

pub returns-in_err-insert-clause-only_new : goal.returns-in_err-insert-clause-only_new
returns-in_err-insert-clause-only_new c =
    after_fault c.from_residual.result (ap (λ s. set.contains s c.args.item) (sym c.self.view_is) ∙ set_found c.self.inside.items c.args.item c.len-length.ensures.ordered ∙ c.in_err-insert.ensures.absent)

pub returns-clause-new : goal.returns-clause-new
returns-clause-new c =
    c.in_ok-insert.ensures.added ∙ ap not (sym (set_found c.self.inside.items c.args.item c.len-length.ensures.ordered)
    ∙ ap (λ s. set.contains s c.args.item) c.self.view_is)

pub returns-clause-ok : goal.returns-clause-ok
returns-clause-ok c =
    set_inserted c.self.inside.items c.insert.new.self c.args.item c.len-length.ensures.ordered c.in_ok-insert.ensures.keys
    ∙ ap (λ s. set.insert s c.args.item) c.self.view_is
