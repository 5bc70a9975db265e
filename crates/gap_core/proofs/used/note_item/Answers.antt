use Rattle.std.proofs.Common.{◌∙◌, sym}
use mathlib.Core.Bool.{false≢true}
use Rattle.std.proofs.lemmas.Result.{on_ok_weaker}
use Rattle.gap_core.proofs.UsedSteps.{item_left, item_taken}
use Rattle.gap_core.proofs.used.note_item.Goals as goal

pub returns-then-has : goal.returns-then-has
returns-then-has c = item_taken c.args.site c.args.container.now c.args.inputs.now c.args.item.now c.args.used.now.items (c.has.ensures.0 c.if-has.true)

pub returns : goal.returns
returns c = on_ok_weaker c.push_gap.result
    (item_left c.args.site c.args.container.now c.args.inputs.now c.args.item.now c.args.used.now.items c.push_gap.new.gaps.items
    (λ taken. false≢true (sym c.if-has.false ∙ c.has.ensures.1 taken)))
    c.push_gap.ensures
