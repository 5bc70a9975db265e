use Rattle.std.proofs.Common.{ap, ◌∙◌}
use Rattle.std.specs.List.{list_all}
use Rattle.site_core.specs.ItemSets as set
use Rattle.site_core.proofs.ClosedSets.{closed_by_spread}
use Rattle.site_core.proofs.closing.is_closed_set.Goals as goal

pub returns : goal.returns
returns c = closed_by_spread c.args.captured.now c.args.items.now c.deref.result.now c.in_ok-spread.spread.items c.has_each.result
    (c.deref.ensures.value ∙ c.in_ok-starts.ensures)
    c.in_ok-spread.ensures.exact
    (c.has_each.ensures ∙ ap (list_all (λ i. set.contains c.args.items.now i)) c.deref-2.ensures.value)
