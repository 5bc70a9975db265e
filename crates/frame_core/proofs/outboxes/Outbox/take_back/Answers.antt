use Rattle.std.proofs.Common.{◌≡◌, ◌-◌, length, ap, ◌∙◌, arith}
use Rattle.frame_core.specs.Counts.{without_rows}
use Rattle.frame_core.proofs.Below.{unnumbered}
use Rattle.frame_core.specs.Unsignalled.{Unsignalled}
use Rattle.frame_core.proofs.outboxes.Outbox.take_back.Goals as goal

pub returns-clause-rows : goal.returns-clause-rows
returns-clause-rows c rows r out below were next =
    let first = c.args.first in
    let many : c.self.inside.next - first ≡ length out = omega (arith, ap (λ (u : Unsignalled). u.next) c.self.view_is, next) in
    c.take_from.ensures
    ∙ ap (λ k. without_rows c.self.inside.rows.rows first k) many
    ∙ ap (λ m. without_rows m first (length out)) (ap (λ (u : Unsignalled). u.rows) c.self.view_is ∙ were)
    ∙ unnumbered rows first r out below
