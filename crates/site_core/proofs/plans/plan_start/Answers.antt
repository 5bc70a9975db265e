use Rattle.std.proofs.Common.{subst}
use Rattle.site_core.specs.Shipments.{AreShipments}
use Rattle.site_core.proofs.Newly.{newly}
use Rattle.site_core.proofs.plans.plan_start.Goals as goal

pub returns : goal.returns
returns c = record {
  spread = c.in_ok-spread.spread.items;
  ascending = c.in_ok-spread.ensures.ascending;
  exact = c.in_ok-spread.ensures.exact;
  newly = newly c.args.captured.now c.args.quarantine.now c.args.recall c.args.root.now c.in_ok-spread.spread.items c.in_ok-new.new.items c.in_ok-spread.ensures.ascending (λ j free. c.in_ok-spread.ensures.exact j) c.in_ok-new.ensures;
  shipped = subst (λ xs. AreShipments c.args.captured.now xs c.in_ok-out.out.items) c.deref.ensures.value c.in_ok-out.ensures;
}
