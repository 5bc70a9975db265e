use Rattle.std.proofs.lemmas.Result.{IfOk-weaker}
use Rattle.site_core.proofs.Blocks.{nothing_blocks}
use Rattle.site_core.proofs.SentBlocks.{first_away, nothing_away}
use Rattle.site_core.proofs.sent_blocks.sent_block.Goals as goal

pub returns-then-is_empty : goal.returns-then-is_empty
returns-then-is_empty c before e are others = nothing_blocks (record c.args.captured.now { events = before }) c.args.quarantine.now e (c.is_empty.ensures.0 c.if-is_empty.true)

pub returns-in-Some : goal.returns-in-Some
returns-in-Some c = IfOk-weaker c.least_holder.result _ _
    (λ block holder before e are others.
    first_away (record c.args.captured.now { events = before }) e c.args.quarantine.now others c.in-Some.item.now block (c.in-Some.ensures before e are) holder)
    c.least_holder.ensures

pub returns-in-None : goal.returns-in-None
returns-in-None c before e are others = nothing_away (record c.args.captured.now { events = before }) e c.args.quarantine.now others (c.in-None.ensures before e are)
