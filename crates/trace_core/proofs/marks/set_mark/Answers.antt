use Rattle.std.proofs.Common.{refl}
use Rattle.trace_core.proofs.MarkSteps.{mark_set, no_mark_set}
use Rattle.trace_core.proofs.marks.set_mark.Goals as goal

pub returns-then-number-marks-clause-set : goal.returns-then-number-marks-clause-set
returns-then-number-marks-clause-set c = mark_set c.args.marks.now _ c.args.number c.if-number-marks.true refl

pub returns-else-number-marks-clause-set : goal.returns-else-number-marks-clause-set
returns-else-number-marks-clause-set c = no_mark_set c.args.marks.now c.args.number c.if-number-marks.false
