use Rattle.std.proofs.Common.{◌↔◌, List, [], subst, arith}
use Rattle.std.specs.List.{Contains}
use Rattle.std.proofs.lemmas.Map.Lookups.{CmpEqualImpliesEq}
use Rattle.std.proofs.lemmas.Result.{IfOk-weaker}
use Rattle.trace_core.specs.Chains.{sites_at}
use Rattle.trace_core.proofs.Visiting.{as_many_sites}
use Rattle.gap_core.specs.Adding.{AddsToList}
use Rattle.gap_core.specs.GapItems.{gap_item_cmp}
use Rattle.gap_core.specs.Touched.{IsTouchedAt, IsTouchedChild}
use Rattle.gap_core.specs.declared.gap_items.GapItem.{GapItem}
use Rattle.gap_core.proofs.Additions.{more_before}
use Rattle.gap_core.proofs.GapSteps.{gap_items_exact}
use Rattle.gap_core.proofs.TouchedSteps.{all_touched}
use Rattle.gap_core.proofs.touched.touched_items.Goals as goal

pub loop-at-preserved : goal.loop-at-preserved
loop-at-preserved c =
    more_before (IsTouchedAt (sites_at c.args.sites.now) c.args.missed.now c.in_ok-gaps.gaps.items) c.loop-at.at (Contains []) (Contains c.loop-at.touched.items) (Contains c.note_site.new.touched.items) c.loop-at.invariant
    (subst (λ (xs : List GapItem). AddsToList c.loop-at.touched.items c.note_site.new.touched.items (IsTouchedAt (sites_at c.args.sites.now) c.args.missed.now xs c.loop-at.at)) c.as_slice.ensures.value c.in_ok-note_site.ensures)

pub returns-clause-exact : goal.returns-clause-exact
returns-clause-exact c = IfOk-weaker c.in_order.result
    (λ items. CmpEqualImpliesEq gap_item_cmp → (g : GapItem) → Contains items.items g ↔ Contains c.loop-at.touched.items g)
    (λ items. (g : GapItem) → Contains items.items g ↔ IsTouchedChild (sites_at c.args.sites.now) c.args.missed.now g)
    (λ items same. all_touched (sites_at c.args.sites.now) c.args.missed.now c.in_ok-gaps.gaps.items c.loop-at.at c.loop-at.touched.items items.items (as_many_sites c.args.sites.now c.loop-at.at (omega (arith, c.loop-at-test.false)))
    c.in_ok-gaps.ensures.exact c.loop-at.invariant (same gap_items_exact))
    c.in_order.ensures.same
