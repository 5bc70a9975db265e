use Rattle.std.proofs.Common.{arith}
use Rattle.trace_core.specs.Chains.{sites_at}
use Rattle.gap_core.specs.Inside.{IsPackedBySome}
use Rattle.gap_core.proofs.WalkSteps.{walk_begins, walk_ends, walk_goes_on}
use Rattle.gap_core.proofs.inside.walk.Goals as goal

pub loop-place-init : goal.loop-place-init
loop-place-init c = walk_begins (IsPackedBySome (sites_at c.args.sites.now)) c.args.starts

pub loop-place-preserved : goal.loop-place-preserved
loop-place-preserved c =
    walk_goes_on (IsPackedBySome (sites_at c.args.sites.now)) c.args.starts c.loop-place.found c.note_contents.new.found c.loop-place.place
    (omega (arith, c.len.ensures, c.loop-place-test.true)) c.loop-place.invariant c.in_ok-note_contents.ensures

pub returns : goal.returns
returns c =
    walk_ends (IsPackedBySome (sites_at c.args.sites.now)) c.args.starts c.loop-place.found c.loop-place.place
    (omega (arith, c.len.ensures, c.loop-place-test.false)) c.loop-place.invariant
