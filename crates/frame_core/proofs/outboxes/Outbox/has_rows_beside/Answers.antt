use Rattle.std.proofs.Common.{ltb, ap, ◌∙◌}
use Rattle.frame_core.specs.Outboxes.{rows_of}
use Rattle.frame_core.specs.Unsignalled.{Unsignalled}
use Rattle.frame_core.proofs.Deficits.{more_rows}
use Rattle.frame_core.proofs.outboxes.Outbox.has_rows_beside.Goals as goal

pub returns : goal.returns
returns c =
    let (row, stands, of_recall) = c.requires.of_recall in
    ap (ltb 1) (c.count.ensures ∙ ap (λ (u : Unsignalled). rows_of u.rows c.args.recall) c.self.view_is)
    ∙ more_rows c.args.self.now.rows c.args.number row c.args.recall stands of_recall
