use Rattle.std.proofs.Common.{ltb, ap, ◌∙◌}
use Rattle.frame_core.specs.Outboxes.{has_rows}
use Rattle.frame_core.proofs.Deficits.{rows_from_deficit}
use Rattle.frame_core.proofs.outboxes.Outbox.has_rows.Goals as goal

pub returns : goal.returns
returns c = ap (ltb 0) c.count.ensures ∙ rows_from_deficit c.self.inside.rows.rows c.args.recall ∙ ap (λ u. has_rows u.rows c.args.recall) c.self.view_is
