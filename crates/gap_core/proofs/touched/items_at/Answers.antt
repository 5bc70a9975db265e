use Rattle.std.proofs.Common.{[], refl, subst}
use Rattle.gap_core.specs.Adding.{NotesThose}
use Rattle.gap_core.specs.Touched.{IsItemAt}
use Rattle.gap_core.proofs.Notings.{all_noted, one_more_noted}
use Rattle.gap_core.proofs.TouchedSteps.{all_items_at}
use Rattle.gap_core.proofs.touched.items_at.Goals as goal

pub loop-pair-preserved : goal.loop-pair-preserved
loop-pair-preserved c =
    one_more_noted (IsItemAt c.args.site.now.me) c.args.pairs.now c.loop-pair.pair-index c.pair-item.result c.loop-pair-test.true c.pair-item.is [] c.loop-pair.items c.note_pair.new.items c.loop-pair.invariant
    (subst (λ n. NotesThose (IsItemAt n c.pair-item.result) c.loop-pair.items c.note_pair.new.items) c.me.ensures c.in_ok-note_pair.ensures)

pub returns : goal.returns
returns c = all_items_at c.args.site.now.me c.args.site.now.me c.args.pairs.now [] c.loop-pair.items refl refl
    (all_noted (IsItemAt c.args.site.now.me) c.args.pairs.now c.loop-pair.pair-index c.loop-pair-test.false [] c.loop-pair.items c.loop-pair.invariant)
