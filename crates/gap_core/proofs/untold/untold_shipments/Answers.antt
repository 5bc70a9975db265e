use Rattle.std.proofs.Common.{◌↔◌, [], arith}
use Rattle.std.specs.List.{Contains}
use Rattle.std.proofs.lemmas.Map.Lookups.{CmpEqualImpliesEq}
use Rattle.std.proofs.lemmas.Result.{IfOk-weaker}
use Rattle.trace_core.specs.Chains.{sites_at}
use Rattle.trace_core.proofs.Visiting.{as_many_sites}
use Rattle.gap_core.specs.Untold.{IsUntoldAt, IsUntoldIn, untold_cmp}
use Rattle.gap_core.specs.declared.untold.UntoldShipment.{UntoldShipment}
use Rattle.gap_core.proofs.Additions.{more_before}
use Rattle.gap_core.proofs.UntoldSteps.{all_untold, untold_exact}
use Rattle.gap_core.proofs.untold.untold_shipments.Goals as goal

pub loop-at-preserved : goal.loop-at-preserved
loop-at-preserved c =
    more_before (IsUntoldAt (sites_at c.args.sites.now) c.args.reached.now) c.loop-at.at (Contains []) (Contains c.loop-at.found.items) (Contains c.note_site.new.found.items) c.loop-at.invariant c.in_ok-note_site.ensures

pub returns-clause-exact : goal.returns-clause-exact
returns-clause-exact c = IfOk-weaker c.in_order.result
    (λ found. CmpEqualImpliesEq untold_cmp → (x : UntoldShipment) → Contains found.items x ↔ Contains c.loop-at.found.items x)
    (λ found. (x : UntoldShipment) → Contains found.items x ↔ IsUntoldIn (sites_at c.args.sites.now) c.args.reached.now x)
    (λ found same. all_untold (sites_at c.args.sites.now) c.args.reached.now c.loop-at.at c.loop-at.found.items found.items (as_many_sites c.args.sites.now c.loop-at.at (omega (arith, c.loop-at-test.false))) c.loop-at.invariant (same untold_exact))
    c.in_order.ensures.same
