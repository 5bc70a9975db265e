use Rattle.std.proofs.Common.{◌∙◌, sym}
use mathlib.Core.Bool.{false≢true}
use Rattle.std.proofs.lemmas.Result.{on_ok_weaker}
use Rattle.gap_core.proofs.GapSteps.{gap_added, no_gap, told_gap}
use Rattle.gap_core.proofs.site_gaps.note_gap.Goals as goal

pub returns-then-is_told : goal.returns-then-is_told
returns-then-is_told c = told_gap c.args.site c.args.container.now c.args.told.now c.args.packed.now c.args.packers.now c.args.child.now c.args.gaps.now.items (c.is_told.ensures.0 c.if-is_told.true)

pub returns-in-Some : goal.returns-in-Some
returns-in-Some c = on_ok_weaker c.push_gap.result
    (gap_added c.args.site c.args.container.now c.args.told.now c.args.packed.now c.args.packers.now c.args.child.now c.in-Some.by.now c.args.gaps.now.items c.push_gap.new.gaps.items
    (λ told. false≢true (sym c.if-is_told.false ∙ c.is_told.ensures.1 told)) c.in-Some.ensures.value)
    c.push_gap.ensures

pub returns-in-None : goal.returns-in-None
returns-in-None c = no_gap c.args.site c.args.container.now c.args.told.now c.args.packed.now c.args.packers.now c.args.child.now c.args.gaps.now.items c.in-None.ensures.value
