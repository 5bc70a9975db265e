use Rattle.std.proofs.Common.{refl}
use Rattle.trace_core.specs.Pairs.{pair_cmp}
use Rattle.trace_core.proofs.PairOrder.{pairs_exact, pairs_total}
use Rattle.trace_core.proofs.SetMembers.{found-insert}
use Rattle.gap_core.proofs.untold.Reached.tell.Goals as goal

pub returns : goal.returns
returns c = (refl, found-insert pair_cmp pairs_total pairs_exact c.args.self.now.told c.insert.new.self c.args.pair c.in_ok-insert.ensures.updates)
