use Rattle.std.proofs.Common.{◌+◌, ◌<◌, length, arith}
use Rattle.site_rows.proofs.PartsInTurn.{IsShipRead, none_there, some_there, ship_read, ship_stuck}
use Rattle.site_rows.proofs.reading_bodies.ship_at.Goals as goal
use Rattle.site_rows.proofs.reading_bodies.ship_at.Goals.{else-is_empty-via-then-is_empty+else-is_empty-2, else-is_empty-via-else-is_empty}

pub returns-then-is_empty-2 : goal.returns-then-is_empty-2
returns-then-is_empty-2 c =
    let read : IsShipRead c.args.sites.now c.args.event c.args.rows.now c.args.at.now c.list_at.new.at c.list_at-2.new.at c.list_at-3.new.at c.in_ok-items.items c.in_ok-to.to c.in_ok-outside.outside =
    record { seen = rw c.list.ensures at c.in_ok-items.ensures; shipped = rw c.list-2.ensures at c.in_ok-to.ensures; left = rw c.len.ensures at (rw c.list-3.ensures at c.in_ok-outside.ensures) } in
    ship_stuck c.args.sites.now c.args.event c.args.rows.now c.args.at.now c.list_at.new.at c.list_at-2.new.at c.list_at-3.new.at c.in_ok-items.items c.in_ok-to.to c.in_ok-outside.outside read
    (none_there (length c.in_ok-to.to) c.is_empty.result c.is_empty.ensures c.if-is_empty.true)
    (none_there (length c.in_ok-outside.outside) c.is_empty-then-is_empty.result c.is_empty-then-is_empty.ensures c.if-is_empty-2.true)

pub returns : goal.returns
returns c =
    let read : IsShipRead c.args.sites.now c.args.event c.args.rows.now c.args.at.now c.list_at.new.at c.list_at-2.new.at c.list_at-3.new.at c.in_ok-items.items c.in_ok-to.to c.in_ok-outside.outside =
    record { seen = rw c.list.ensures at c.in_ok-items.ensures; shipped = rw c.list-2.ensures at c.in_ok-to.ensures; left = rw c.len.ensures at (rw c.list-3.ensures at c.in_ok-outside.ensures) } in
    let some : 0 < length c.in_ok-to.to + length c.in_ok-outside.outside = elim c.else-is_empty.branch [
      | else-is_empty-via-then-is_empty+else-is_empty-2 w ↦ omega (arith, some_there (length c.in_ok-outside.outside) w.is_empty-then-is_empty.result w.is_empty-then-is_empty.ensures w.if-is_empty-2.false)
      | else-is_empty-via-else-is_empty w ↦ omega (arith, some_there (length c.in_ok-to.to) c.is_empty.result c.is_empty.ensures w.if-is_empty.false)
    ] in
    ship_read c.args.sites.now c.args.event c.args.rows.now c.args.at.now c.list_at.new.at c.list_at-2.new.at c.list_at-3.new.at c.in_ok-items.items c.in_ok-to.to c.in_ok-outside.outside read some
