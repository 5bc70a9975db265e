use Rattle.std.proofs.Common.{sym, subst}
use Rattle.sqlite.specs.Held.{state}
use Rattle.site_store.specs.Opened.{IsOfMachine}
use Rattle.site_store.proofs.Findings.{has_tables, of_machine, rows_are}
use Rattle.site_store.proofs.opening.read_site.Goals as goal

pub returns-in-Ok-record_of-clause-finds : goal.returns-in-Ok-record_of-clause-finds
returns-in-Ok-record_of-clause-finds g c clean v r it =
    let rows = rows_are v r c.in-Ok.rows (state g.S.Store c.args.conn.now) it.rows c.in-Ok.ensures.known (c.in-Ok.ensures.rows clean) in
    (rows.0, c.in-Ok-record_of.ensures.same (has_tables c.in-Ok.rows _ (c.in-Ok.ensures.rows clean)) r it.site.kept it.site.items it.named rows.1)

pub returns-in-Ok-clause-finds : goal.returns-in-Ok-clause-finds
returns-in-Ok-clause-finds g c clean v r it =
    let rows = rows_are v r c.in-Ok.rows (state g.S.Store c.args.conn.now) it.rows c.in-Ok.ensures.known (c.in-Ok.ensures.rows clean) in
    subst (IsOfMachine (state g.S.Store c.args.conn.now)) (sym (c.in-Err-record_of.ensures.same (has_tables c.in-Ok.rows _ (c.in-Ok.ensures.rows clean)) r it.site.kept it.site.items it.named rows.1)) (tt {0})

pub returns-clause-finds : goal.returns-clause-finds
returns-clause-finds g c clean v r it =
    subst (IsOfMachine (state g.S.Store c.args.conn.now)) (sym c.unread.ensures)
    (of_machine v r c.in-Err.fault (state g.S.Store c.args.conn.now) (state g.S.Store c.read_rows.new.conn) it.rows (c.in-Err.ensures.cause clean))
