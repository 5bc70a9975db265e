use Rattle.std.proofs.Common.{subst}
use Rattle.site_rows.specs.BadRows.{Tells, IsHeldRow, IsHeldEntry}
use Rattle.site_rows.specs.HeldItems.{held_cmp, all_held}
use Rattle.site_rows.proofs.OneEntry.{one_held_entry}
use Rattle.site_rows.proofs.RowsOfMaps.{is_added}
use Rattle.site_rows.proofs.reading_held.add_held.Goals as goal

pub returns-in_default : goal.returns-in_default
returns-in_default c = λ p _ is _. subst (λ o. Tells o (λ q. IsHeldRow c.args.sites c.args.row.now q.0 q.1)) c.in_default.is c.in_ok-held.ensures p is

pub returns : goal.returns
returns c =
    let is = subst (λ o. Tells o (λ q. IsHeldRow c.args.sites c.args.row.now q.0 q.1)) c.in-Some.is c.in_ok-held.ensures in
    is_added held_cmp (IsHeldEntry c.args.sites c.args.row.now) (one_held_entry c.args.sites c.args.row.now) (all_held c.args.quarantine.now) (all_held c.hold_last.new.quarantine)
    c.in-Some.held tt is c.in_ok-added.added c.in_ok-added.ensures
