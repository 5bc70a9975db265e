use Rattle.std.proofs.Common.{eqb-true, sym}
use Rattle.site_recovery.proofs.ToldItems.{row_held}
use Rattle.site_recovery.proofs.told_items.hold_row.Goals as goal

pub returns-in_ok-hold : goal.returns-in_ok-hold
returns-in_ok-hold c =
    row_held c.args.told.now c.hold.new.self c.args.row.now c.args.dest c.in_ok-copy.field-0 (eqb-true c.args.row.now.dest c.args.dest (sym c.if-eq.ensures)) c.in_ok-copy.ensures c.in_ok-hold.ensures.ok
