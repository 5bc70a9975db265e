use Rattle.std.proofs.Common.{to_z-of_z}
use Rattle.sqlite.specs.State.{HasCleanDisk}
use Rattle.sqlite.specs.Held.{state}
use Rattle.site_tables.proofs.StoreTable.{updates_version}
use Rattle.site_tables.proofs.Steps.{ran}
use Rattle.site_tables.proofs.store_table.set_version.Goals as goal

pub returns-clause-wrote : goal.returns-clause-wrote
returns-clause-wrote g c =
    let it = c.execute.ensures in
    let runs = λ (clean : HasCleanDisk (state g.S.Store c.execute.new.self.conn.now)). rw (c.params-to_sql.ensures, to_z-of_z c.ranges.version) at (it.runs clean) in
    updates_version c.args.version (ran g.S.Store it.ended runs it.survives)
