use Rattle.std.proofs.Common.{◌∷◌, [], length, ap, arith, length-append}
use Rattle.gap_core.proofs.MissedReach.{all_parted, parted_on}
use Rattle.gap_core.proofs.missed_reach.add_pairs.Goals as goal

pub loop-pair-init : goal.loop-pair-init
loop-pair-init c p = (λ h. h, λ h. h)

pub loop-pair-smaller : goal.loop-pair-smaller
loop-pair-smaller c = omega (arith, ap length c.in-Some.ensures.items, length-append c.pop.new.self.items (c.in-Some.pair ∷ []))

pub loop-pair-preserved : goal.loop-pair-preserved
loop-pair-preserved c = parted_on c.args.set.now c.args.pairs.items c.loop-pair.rest.items c.pop.new.self.items c.loop-pair.set c.insert.new.self c.in-Some.pair c.in-Some.ensures.items c.in_ok-insert.ensures.updates c.loop-pair.invariant

pub returns : goal.returns
returns c = all_parted c.args.set.now c.args.pairs.items c.loop-pair.rest.items c.loop-pair.set (omega (arith, c.in_default.ensures.cases.0, c.loop-pair.rest.ok.0)) c.loop-pair.invariant
