use Rattle.std.proofs.Common.{◌↔◌, [], arith}
use Rattle.std.specs.List.{Contains}
use Rattle.std.proofs.lemmas.Map.Lookups.{CmpEqualImpliesEq}
use Rattle.std.proofs.lemmas.Result.{IfOk-weaker}
use Rattle.trace_core.specs.Chains.{sites_at}
use Rattle.trace_core.proofs.Visiting.{as_many_sites}
use Rattle.gap_core.specs.GapPacks.{IsGapPack, IsPackAt, gap_pack_cmp}
use Rattle.gap_core.specs.declared.packs.GapPack.{GapPack}
use Rattle.gap_core.proofs.Additions.{more_before}
use Rattle.gap_core.proofs.PackSteps.{all_packs, gap_packs_exact}
use Rattle.gap_core.proofs.packs.packs_to_capture.Goals as goal

pub loop-at-preserved : goal.loop-at-preserved
loop-at-preserved c =
    more_before (IsPackAt (sites_at c.args.sites.now)) c.loop-at.at (Contains []) (Contains c.loop-at.packs.items) (Contains c.note_packs.new.packs.items) c.loop-at.invariant c.in_ok-note_packs.ensures

pub returns-clause-exact : goal.returns-clause-exact
returns-clause-exact c = IfOk-weaker c.in_order.result
    (λ packs. CmpEqualImpliesEq gap_pack_cmp → (p : GapPack) → Contains packs.items p ↔ Contains c.loop-at.packs.items p)
    (λ packs. (p : GapPack) → Contains packs.items p ↔ IsGapPack (sites_at c.args.sites.now) p)
    (λ packs same. all_packs (sites_at c.args.sites.now) c.loop-at.at c.loop-at.packs.items packs.items (as_many_sites c.args.sites.now c.loop-at.at (omega (arith, c.loop-at-test.false))) c.loop-at.invariant (same gap_packs_exact))
    c.in_order.ensures.same
