use Rattle.std.proofs.Common.{◌↔◌, [], arith}
use Rattle.std.specs.List.{Contains}
use Rattle.std.proofs.lemmas.Map.Lookups.{CmpEqualImpliesEq}
use Rattle.std.proofs.lemmas.Result.{IfOk-weaker}
use Rattle.trace_core.specs.Chains.{sites_at}
use Rattle.trace_core.proofs.Visiting.{as_many_sites}
use Rattle.gap_core.specs.GapItems.{gap_item_cmp}
use Rattle.gap_core.specs.Unlinked.{IsUnlinkedAt, IsUnlinkedChild}
use Rattle.gap_core.specs.declared.gap_items.GapItem.{GapItem}
use Rattle.gap_core.proofs.Additions.{more_before}
use Rattle.gap_core.proofs.GapSteps.{gap_items_exact}
use Rattle.gap_core.proofs.UnlinkedSteps.{all_unlinked}
use Rattle.gap_core.proofs.unlinked.unlinked_items.Goals as goal

pub loop-at-preserved : goal.loop-at-preserved
loop-at-preserved c =
    more_before (IsUnlinkedAt (sites_at c.args.sites.now)) c.loop-at.at (Contains []) (Contains c.loop-at.found.items) (Contains c.note_site.new.found.items) c.loop-at.invariant c.in_ok-note_site.ensures

pub returns-clause-exact : goal.returns-clause-exact
returns-clause-exact c = IfOk-weaker c.in_order.result
    (λ items. CmpEqualImpliesEq gap_item_cmp → (g : GapItem) → Contains items.items g ↔ Contains c.loop-at.found.items g)
    (λ items. (g : GapItem) → Contains items.items g ↔ IsUnlinkedChild (sites_at c.args.sites.now) g)
    (λ items same. all_unlinked (sites_at c.args.sites.now) c.loop-at.at c.loop-at.found.items items.items (as_many_sites c.args.sites.now c.loop-at.at (omega (arith, c.loop-at-test.false))) c.loop-at.invariant (same gap_items_exact))
    c.in_order.ensures.same
