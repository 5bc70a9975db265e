use Rattle.std.proofs.Common.{arith}
use Rattle.trace_core.specs.Chains.{sites_at}
use Rattle.trace_core.proofs.Visiting.{as_few_sites, as_many_sites}
use Rattle.gap_core.proofs.TellingSteps.{one_more_told, tells_all}
use Rattle.gap_core.proofs.searches.tell_all.Goals as goal

pub loop-to-preserved : goal.loop-to-preserved
loop-to-preserved c =
    one_more_told (sites_at c.args.sites.now) c.args.at c.args.turn c.args.index.now c.args.waiting.now.items c.loop-to.index c.tell_one.new.index c.loop-to.waiting.items c.tell_one.new.waiting.items c.loop-to.to
    (as_few_sites c.args.sites.now c.loop-to.to (omega (arith, c.loop-to-test.true))) c.loop-to.invariant c.in_ok-tell_one.ensures

pub returns : goal.returns
returns c =
    tells_all (sites_at c.args.sites.now) c.args.at c.args.turn c.args.index.now c.loop-to.index c.args.waiting.now.items c.loop-to.waiting.items c.loop-to.to
    (as_many_sites c.args.sites.now c.loop-to.to (omega (arith, c.loop-to-test.false))) c.loop-to.invariant
