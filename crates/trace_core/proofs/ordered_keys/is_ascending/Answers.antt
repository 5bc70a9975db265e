use Rattle.std.proofs.Common.{arith}
use Rattle.trace_core.proofs.KeyOrder.{each_below}
use Rattle.trace_core.proofs.ordered_keys.is_ascending.Goals as goal

pub returns : goal.returns
returns g c passed = each_below g.K.Ord.cmp g.met.K.Ord.total c.args.keys.now (λ k d below. c.loop-place.invariant k d (omega (arith, below, c.loop-place-test.false)))
