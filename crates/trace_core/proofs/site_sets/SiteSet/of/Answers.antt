use Rattle.std.proofs.Common.{arith}
use Rattle.trace_core.proofs.SiteSetSteps.{no_member, one_member}
use Rattle.trace_core.proofs.site_sets.SiteSet.of.Goals as goal

pub loop-site-init : goal.loop-site-init
loop-site-init c = no_member c.new-set.result c.new-set.ensures

pub loop-site-preserved : goal.loop-site-preserved
loop-site-preserved c = one_member c.loop-site.set c.insert.new.self c.args.sites.now c.loop-site.site-index c.site-item.result (omega (arith, c.loop-site-test.true)) c.site-item.is c.insert.ensures c.loop-site.invariant
