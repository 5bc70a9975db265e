use Rattle.std.proofs.Common.{◌≡◌, ◌+◌, map, min, take}
use Rattle.sqlite.specs.Held.{state}
use Rattle.site_tables.specs.Tables.{declared}
use Rattle.site_tables.specs.TableRows.{HasWritten, adds}
use Rattle.site_tables.proofs.inserting.insert_each.Given as goal

-- the reference stays, the elements so far are written, and each was counted
abbrev pub invariant-loop-at : goal.invariant-loop-at
invariant-loop-at g l =
    (l.tx.conn.ghost_name ≡ l.fn.tx.conn.ghost_name)
    × HasWritten (declared g.T.TableRow.named) (adds (map g.T.TableRow.shown (take l.at l.rows))) (state g.S.Store l.fn.tx.conn.now) (state g.S.Store l.tx.conn.now)
    × (l.written ≡ min 18_446_744_073_709_551_615 (l.fn.written + l.at))
