use Rattle.std.proofs.Common.{sym, ◌∙◌}
use Rattle.site_core.proofs.Blocks.{stays_inside}
use Rattle.site_core.proofs.made_blocks.stays_inside.Goals as goal

pub returns-then-joins_as_part : goal.returns-then-joins_as_part
returns-then-joins_as_part c = λ all. stays_inside c.args.captured.now c.args.quarantine.now c.args.event.now c.body-body.result.now c.args.item.now c.args.covering.now.own c.args.recalls.now c.body-body.ensures.value c.requires.making
    (c.joins_as_part.ensures c.if-joins_as_part.true) c.requires.covers.own (sym c.each_is_covered.ensures ∙ all)
