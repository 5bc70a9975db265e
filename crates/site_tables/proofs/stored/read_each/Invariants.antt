use Rattle.std.proofs.Common.{◌≡◌, [], map}
use Rattle.sqlite.specs.State.{HasCleanDisk, IsUnchanged, Survives}
use Rattle.sqlite.specs.Held.{state}
use Rattle.sqlite.specs.Given.{HasGiven}
use Rattle.site_tables.proofs.stored.read_each.Given as goal

abbrev pub invariant-rows : goal.invariant-rows
invariant-rows g l =
    let old = state g.S.Store l.fn.conn in
    let now = state g.S.Store l.rows.conn.now in
    (l.rows.conn.ghost_name ≡ l.initial.rows.conn.ghost_name) × Survives old now (λ _. ⊥)
    × (HasCleanDisk now → HasGiven g.S.Store l.sql [] l.rows.conn.now (map g.T.TableRow.shown l.read.items) × IsUnchanged old now)
