use Rattle.std.proofs.Common.{arith}
use Rattle.std.proofs.lemmas.List.{get_or_default}
use Rattle.trace_core.proofs.SentSteps.{one_item}
use Rattle.trace_core.proofs.sendings.Sent.note_at.Goals as goal

pub loop-item-preserved : goal.loop-item-preserved
loop-item-preserved c = one_item c.args.self.now c.loop-item.self c.note.new.self c.args.site c.args.items.now c.loop-item.item-index _ (omega (arith, c.loop-item-test.true))
    (get_or_default c.args.items.now c.loop-item.item-index 0 _ (omega (arith, c.loop-item-test.true))) c.loop-item.invariant c.in_ok-note.ensures.ok
