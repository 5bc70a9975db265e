use Rattle.std.proofs.Common.{◌↔◌, [], arith}
use Rattle.std.specs.List.{Contains}
use Rattle.std.proofs.lemmas.Map.Lookups.{CmpEqualImpliesEq}
use Rattle.std.proofs.lemmas.Result.{IfOk-weaker}
use Rattle.trace_core.specs.Chains.{sites_at}
use Rattle.trace_core.proofs.Visiting.{as_many_sites}
use Rattle.gap_core.specs.GapPacks.{IsItemPack, IsItemPackAt, gap_pack_cmp}
use Rattle.gap_core.specs.declared.packs.GapPack.{GapPack}
use Rattle.gap_core.proofs.Additions.{more_before}
use Rattle.gap_core.proofs.PackSteps.{all_item_packs, gap_packs_exact}
use Rattle.gap_core.proofs.packs.packs_of_items.Goals as goal

pub loop-at-preserved : goal.loop-at-preserved
loop-at-preserved c =
    more_before (IsItemPackAt (sites_at c.args.sites.now) c.args.site c.args.items.now) c.loop-at.at (Contains []) (Contains c.loop-at.packs.items) (Contains c.note_item_packs.new.packs.items) c.loop-at.invariant
    c.in_ok-note_item_packs.ensures

pub returns-clause-exact : goal.returns-clause-exact
returns-clause-exact c = IfOk-weaker c.in_order.result
    (λ packs. CmpEqualImpliesEq gap_pack_cmp → (p : GapPack) → Contains packs.items p ↔ Contains c.loop-at.packs.items p)
    (λ packs. (p : GapPack) → Contains packs.items p ↔ IsItemPack (sites_at c.args.sites.now) c.args.site c.args.items.now p)
    (λ packs same. all_item_packs (sites_at c.args.sites.now) c.args.site c.args.items.now c.loop-at.at c.loop-at.packs.items packs.items (as_many_sites c.args.sites.now c.loop-at.at (omega (arith, c.loop-at-test.false))) c.loop-at.invariant (same gap_packs_exact))
    c.in_order.ensures.same
