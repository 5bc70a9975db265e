use Rattle.std.proofs.Common.{arith}
use Rattle.site_recovery.proofs.ReachedItems.{pair_held}
use Rattle.site_recovery.proofs.reached_items.hold_pair.Goals as goal

pub returns-in_ok-hold : goal.returns-in_ok-hold
returns-in_ok-hold c =
    pair_held c.args.reached.now.items c.args.recall c.args.pair c.number-place.result c.index_mut.result.now c.hold.new.self c.number-place.ensures.value (omega (arith, c.if-place-len.true, c.len.ensures, c.args.reached.now.ok.0))
    c.index_mut.ensures.value c.in_ok-hold.ensures.ok
