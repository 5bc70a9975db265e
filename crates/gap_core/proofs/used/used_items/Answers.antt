use Rattle.std.proofs.Common.{◌↔◌, [], arith}
use Rattle.std.specs.List.{Contains}
use Rattle.std.proofs.lemmas.Map.Lookups.{CmpEqualImpliesEq}
use Rattle.std.proofs.lemmas.Result.{IfOk-weaker}
use Rattle.trace_core.specs.Chains.{sites_at}
use Rattle.trace_core.proofs.Visiting.{as_many_sites}
use Rattle.gap_core.specs.GapItems.{gap_item_cmp}
use Rattle.gap_core.specs.Used.{IsUsedAt, IsUsedChild}
use Rattle.gap_core.specs.declared.gap_items.GapItem.{GapItem}
use Rattle.gap_core.proofs.Additions.{more_before}
use Rattle.gap_core.proofs.GapSteps.{gap_items_exact}
use Rattle.gap_core.proofs.UsedSteps.{all_used}
use Rattle.gap_core.proofs.used.used_items.Goals as goal

pub loop-at-preserved : goal.loop-at-preserved
loop-at-preserved c =
    more_before (IsUsedAt (sites_at c.args.sites.now)) c.loop-at.at (Contains []) (Contains c.loop-at.used.items) (Contains c.note_site.new.used.items) c.loop-at.invariant c.in_ok-note_site.ensures

pub returns-clause-exact : goal.returns-clause-exact
returns-clause-exact c = IfOk-weaker c.in_order.result
    (λ items. CmpEqualImpliesEq gap_item_cmp → (g : GapItem) → Contains items.items g ↔ Contains c.loop-at.used.items g)
    (λ items. (g : GapItem) → Contains items.items g ↔ IsUsedChild (sites_at c.args.sites.now) g)
    (λ items same. all_used (sites_at c.args.sites.now) c.loop-at.at c.loop-at.used.items items.items (as_many_sites c.args.sites.now c.loop-at.at (omega (arith, c.loop-at-test.false))) c.loop-at.invariant (same gap_items_exact))
    c.in_order.ensures.same
