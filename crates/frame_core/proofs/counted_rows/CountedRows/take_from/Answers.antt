use Rattle.std.proofs.Common.{◌+◌, ◌-◌, ap, ◌∙◌, arith}
use Rattle.frame_core.specs.Counts.{without_rows}
use Rattle.frame_core.proofs.Below.{without_next}
use Rattle.frame_core.proofs.counted_rows.CountedRows.take_from.Goals as goal

pub loop-number-preserved : goal.loop-number-preserved
loop-number-preserved c =
    let n = c.loop-number.number in
    ap (λ m. without_rows m (n + 1) (c.args.next - (n + 1))) c.take.ensures.rows
    ∙ without_next c.loop-number.self.rows n c.args.next (omega (arith, c.loop-number-test.true))
    ∙ c.loop-number.invariant
