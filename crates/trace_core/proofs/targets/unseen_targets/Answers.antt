use Rattle.std.proofs.Common.{◌↔◌, arith}
use Rattle.std.specs.List.{Contains}
use Rattle.std.proofs.lemmas.Map.Lookups.{CmpEqualImpliesEq}
use Rattle.std.proofs.lemmas.Result.{IfOk-weaker}
use Rattle.trace_core.specs.declared.pairs.Pair.{Pair}
use Rattle.trace_core.specs.Chains.{Related, sites_at}
use Rattle.trace_core.specs.Groups.{IsGivenBy}
use Rattle.trace_core.specs.Pairs.{pair_cmp}
use Rattle.trace_core.specs.Searches.{AreUnseen}
use Rattle.trace_core.proofs.PairOrder.{pairs_exact}
use Rattle.trace_core.proofs.ReachSteps.{no_site_gains, sites_gain, all_sites_gain, some_site, targets_gained}
use Rattle.trace_core.proofs.Visiting.{as_many_sites, as_few_sites}
use Rattle.trace_core.proofs.targets.unseen_targets.Goals as goal

pub loop-number-init : goal.loop-number-init
loop-number-init c = no_site_gains (sites_at c.args.sites.now) c.args.pair.now c.args.seen.now c.new-nodes.result

pub loop-number-preserved : goal.loop-number-preserved
loop-number-preserved c =
    let (s, at) = some_site (sites_at c.args.sites.now) c.loop-number.number (as_few_sites c.args.sites.now c.loop-number.number (omega (arith, c.loop-number-test.true))) in
    sites_gain (sites_at c.args.sites.now) c.loop-number.number s c.args.pair.now c.args.seen.now c.loop-number.seen c.visit_pair.new.seen c.new-nodes.result c.loop-number.nodes c.visit_pair.new.nodes at
    c.loop-number.invariant (c.in_ok-visit_pair.ensures.gains s at) c.in_ok-visit_pair.ensures.only

pub returns-clause-unseen : goal.returns-clause-unseen
returns-clause-unseen c =
    let sites = sites_at c.args.sites.now in
    IfOk-weaker c.in_order.result
    (λ targets. CmpEqualImpliesEq pair_cmp → (p : Pair) → Contains targets.items p ↔ Contains c.in_ok-pairs.pairs.items p)
    (λ targets. AreUnseen (Related sites c.args.pair.now) (IsGivenBy sites) c.args.seen.now c.loop-number.seen targets.items)
    (λ targets same. targets_gained sites (Related sites c.args.pair.now) c.args.seen.now c.loop-number.seen c.new-nodes.result c.loop-number.nodes c.in_ok-pairs.pairs.items targets.items c.new-nodes.ensures
    (all_sites_gain sites c.loop-number.number c.args.pair.now c.args.seen.now c.loop-number.seen c.new-nodes.result c.loop-number.nodes (as_many_sites c.args.sites.now c.loop-number.number (omega (arith, c.loop-number-test.false))) c.loop-number.invariant)
    c.in_ok-pairs.ensures (same pairs_exact))
    c.in_order.ensures.same
