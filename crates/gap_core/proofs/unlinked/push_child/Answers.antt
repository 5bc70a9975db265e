use Rattle.std.proofs.Common.{◌∙◌, sym}
use mathlib.Core.Bool.{false≢true}
use Rattle.std.proofs.lemmas.Result.{on_ok_weaker}
use Rattle.gap_core.proofs.UnlinkedSteps.{child_known, child_pushed}
use Rattle.gap_core.proofs.unlinked.push_child.Goals as goal

pub returns-then-has : goal.returns-then-has
returns-then-has c = child_known c.args.site c.args.container.now c.args.by c.args.inside.now c.args.child.now c.args.found.now.items (c.has.ensures.0 c.if-has.true)

pub returns : goal.returns
returns c = on_ok_weaker c.push_gap.result
    (child_pushed c.args.site c.args.container.now c.args.by c.args.inside.now c.args.child.now c.args.found.now.items c.push_gap.new.gaps.items
    (λ known. false≢true (sym c.if-has.false ∙ c.has.ensures.1 known)))
    c.push_gap.ensures
