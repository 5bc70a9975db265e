use Rattle.sqlite.specs.State.{HasCleanDisk}
use Rattle.sqlite.specs.Held.{state}
use Rattle.site_tables.proofs.StoreTable.{updates_numbers}
use Rattle.site_tables.proofs.Steps.{ran}
use Rattle.site_tables.proofs.store_table.update_store.Goals as goal

pub returns-clause-wrote : goal.returns-clause-wrote
returns-clause-wrote g c =
    let it = c.execute.ensures in
    let runs = λ (clean : HasCleanDisk (state g.S.Store c.execute.new.self.conn.now)). rw (c.params-to_sql.ensures, c.params-to_sql-2.ensures) at (it.runs clean) in
    updates_numbers c.args.numbers.now (ran g.S.Store it.ended runs it.survives)
