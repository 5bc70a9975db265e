use Rattle.frame_core.proofs.Ascending.{ascending_keys, copied_next}
use Rattle.frame_core.proofs.tables.copy.Goals as goal

pub loop-key-preserved-in_ok-put : goal.loop-key-preserved-in_ok-put
loop-key-preserved-in_ok-put g c =
    copied_next g.met.K.Ord.total c.loop-key.copies.entries c.put.new.map.entries c.loop-key.key-iterator c.next.new.self c.args.map.now.entries c.in-Some.key.now c.in-Some.value.now c.in_ok-copied.field-0
    c.loop-key.invariant c.in-Some.ensures.steps c.in_ok-copied.ensures c.in_ok-put.ensures.entries (ascending_keys g.K.Ord.cmp c.args.map.now.entries c.into_iter-key-iterator.ensures.into_iter_gives.5)

pub loop-key-preserved : goal.loop-key-preserved
loop-key-preserved g c =
    copied_next g.met.K.Ord.total c.loop-key.copies.entries c.put.new.map.entries c.loop-key.key-iterator c.next.new.self c.args.map.now.entries c.in-Some.key.now c.in-Some.value.now c.in_ok-copied.field-0
    c.loop-key.invariant c.in-Some.ensures.steps c.in_ok-copied.ensures c.in_ok-put.ensures.entries (ascending_keys g.K.Ord.cmp c.args.map.now.entries c.into_iter-key-iterator.ensures.into_iter_gives.5)
