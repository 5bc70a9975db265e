use Rattle.sqlite.specs.State.{HasCleanDisk}
use Rattle.sqlite.specs.Held.{state}
use Rattle.site_tables.proofs.RecallTable.{upserts}
use Rattle.site_tables.proofs.Steps.{ran}
use Rattle.site_tables.proofs.recall_table.PutsRecallTableChange.write.Goals as goal

pub returns-clause-wrote : goal.returns-clause-wrote
returns-clause-wrote g c =
    let it = c.execute.ensures in
    let runs = λ (clean : HasCleanDisk (state g.S.Store c.execute.new.self.conn.now)). rw (c.params-to_sql.ensures, c.params-to_sql-2.ensures, c.params-to_sql-3.ensures) at (it.runs clean) in
    upserts c.args.row.now (ran g.S.Store it.ended runs it.survives)
