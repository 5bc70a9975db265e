use Rattle.std.proofs.Common.{◌∙◌, sym, ap}
use Rattle.std.specs.Option.{option_map}
use Rattle.std.proofs.lemmas.Result.{on_ok_weaker}
use Rattle.gap_core.proofs.GapSteps.{child_gap, no_child_gap}
use Rattle.gap_core.proofs.site_gaps.note_gap_at.Goals as goal

pub returns-in-Some : goal.returns-in-Some
returns-in-Some c = on_ok_weaker c.note_gap.result
    (child_gap c.args.site c.args.container.now c.args.told.now c.args.packed.now c.args.packers.now c.args.children.now c.args.place c.in-Some.child.now c.args.gaps.now.items c.note_gap.new.gaps.items
    (sym (sym (ap (option_map (λ i. i.now)) c.in-Some.is) ∙ c.get.ensures)))
    c.note_gap.ensures

pub returns-in-None : goal.returns-in-None
returns-in-None c = no_child_gap c.args.site c.args.container.now c.args.told.now c.args.packed.now c.args.packers.now c.args.children.now c.args.place c.args.gaps.now.items
    (sym (ap (option_map (λ i. i.now)) c.in-None.is) ∙ c.get.ensures)
