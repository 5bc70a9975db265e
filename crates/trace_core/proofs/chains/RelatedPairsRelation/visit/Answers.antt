use Rattle.std.proofs.Common.{arith}
use Rattle.trace_core.specs.Chains.{sites_at}
use Rattle.trace_core.proofs.ReachSteps.{no_site_gains, sites_gain, all_sites_gain, some_site}
use Rattle.trace_core.proofs.Visiting.{as_many_sites, as_few_sites}
use Rattle.trace_core.proofs.chains.RelatedPairsRelation.visit.Goals as goal

pub loop-number-init : goal.loop-number-init
loop-number-init c = record {
  gains = λ p stands. no_site_gains (sites_at c.args.self.now.sites.now) p c.args.seen.now c.args.nodes.now;
  least = omega arith;
}

pub loop-number-preserved : goal.loop-number-preserved
loop-number-preserved c = record {
  gains = λ p stands.
      let (s, at) = some_site (sites_at c.args.self.now.sites.now) c.loop-number.number (as_few_sites c.args.self.now.sites.now c.loop-number.number (omega (arith, c.loop-number-test.true))) in
      sites_gain (sites_at c.args.self.now.sites.now) c.loop-number.number s p c.args.seen.now c.loop-number.seen c.visit_at.new.seen c.args.nodes.now c.loop-number.nodes c.visit_at.new.nodes at
      (c.loop-number.invariant.gains p stands) (c.in_ok-visit_at.ensures.gains p stands s at) c.in_ok-visit_at.ensures.only;
  least = omega (arith, c.loop-number.invariant.least, c.in_ok-visit_at.ensures.looks);
}

pub returns-clause-visited : goal.returns-clause-visited
returns-clause-visited c p stands = all_sites_gain (sites_at c.args.self.now.sites.now) c.loop-number.number p c.args.seen.now c.loop-number.seen c.args.nodes.now c.loop-number.nodes
    (as_many_sites c.args.self.now.sites.now c.loop-number.number (omega (arith, c.loop-number-test.false))) (c.loop-number.invariant.gains p stands)
