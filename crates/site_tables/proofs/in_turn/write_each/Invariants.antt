use Rattle.std.proofs.Common.{◌≡◌, ◌+◌, min, take}
use Rattle.sqlite.specs.Held.{state}
use Rattle.site_tables.specs.Tables.{declared}
use Rattle.site_tables.specs.TableRows.{HasWritten, changes_each}
use Rattle.site_tables.proofs.in_turn.write_each.Given as goal

-- the reference stays, the elements so far are written, and each was counted
abbrev pub invariant-loop-element : goal.invariant-loop-element
invariant-loop-element g l =
    (l.tx.conn.ghost_name ≡ l.fn.tx.conn.ghost_name)
    × HasWritten (declared g.C.TableChange.named) (changes_each g.C.TableChange.change (take l.element-index l.elements)) (state g.S.Store l.fn.tx.conn.now) (state g.S.Store l.tx.conn.now)
    × (l.written ≡ min 18_446_744_073_709_551_615 (l.fn.written + l.element-index))
