use Rattle.std.proofs.Common.{◌∙◌, sym}
use mathlib.Core.Bool.{false≢true}
use Rattle.std.proofs.lemmas.Result.{on_ok_weaker}
use Rattle.gap_core.proofs.UnseenSteps.{item_named, item_unseen}
use Rattle.gap_core.proofs.unseen.note_item.Goals as goal

pub returns-then-mentions : goal.returns-then-mentions
returns-then-mentions c = item_named c.args.from c.args.to.now c.args.item.now c.args.items.now.items (c.mentions.ensures.0 c.if-mentions.true)

pub returns : goal.returns
returns c = on_ok_weaker c.push_item.result
    (item_unseen c.args.from c.args.to.now c.args.item.now c.me.result c.args.items.now.items c.push_item.new.items.items c.me.ensures
    (λ named. false≢true (sym c.if-mentions.false ∙ c.mentions.ensures.1 named)))
    c.push_item.ensures
