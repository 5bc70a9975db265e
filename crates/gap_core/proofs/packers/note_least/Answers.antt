use Rattle.std.proofs.Common.{◌∙◌, sym}
use mathlib.Core.Bool.{false≢true}
use Rattle.gap_core.proofs.PackerSteps.{least_noted, lower_noted}
use Rattle.gap_core.proofs.packers.note_least.Goals as goal

pub returns-then-has_lower : goal.returns-then-has_lower
returns-then-has_lower c = lower_noted c.args.packers.now c.args.child.now c.args.by (c.has_lower.ensures.0 c.if-has_lower.true)

pub returns : goal.returns
returns c = least_noted c.args.packers.now c.insert.new.self c.args.child.now c.in_ok-copy.field-0 c.args.by c.in_ok-copy.ensures c.in_ok-insert.ensures.updates
    (λ lower. false≢true (sym c.if-has_lower.false ∙ c.has_lower.ensures.1 lower))
