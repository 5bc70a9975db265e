use Rattle.site_recovery.proofs.SameRows.{row_decided}
use Rattle.site_recovery.specs.Checking.{world_at}
use Rattle.site_recovery.specs.Looks.{row}
use Rattle.frame_core.specs.Numbers.{Message}
use Rattle.frame_core.specs.Rows.{row_of}
use Rattle.std.proofs.Common.{sym, ap, ◌∙◌}
use Rattle.site_recovery.proofs.homeward.has_row.Goals as goal

pub returns-then-eq : goal.returns-then-eq
returns-then-eq c =
    row_decided (row (world_at c.args.sites.now) c.args.message.site c.args.message.number) (row_of c.in-Some.row) c.args.site c.args.recall c.eq-then-eq.result
    (c.in-Some.ensures ∙ ap (λ (z : Message). row (world_at c.args.sites.now) z.site z.number) c.message.view_is) (sym c.if-eq.ensures) c.eq-then-eq.ensures
