use Rattle.std.proofs.Common.{◌≡◌, rules}
use Rattle.sqlite.specs.Held.{state}
use Rattle.site_tables.specs.Reads.{IsReadFault}
use Rattle.site_tables.proofs.Failing.{read_fault}
use Rattle.site_tables.specs.Tables.{declared, schema_under}
use Rattle.site_tables.proofs.Listed.{read_listed, listed_is}
use Rattle.site_tables.proofs.reads.read_table.Goals as goal

pub returns-clause-rows : goal.returns-clause-rows
returns-clause-rows g c clean =
    let known : c.args.conn.now.schema ≡ schema_under c.args.version = search rules in
    let listed = read_listed g.S.Store (declared g.T.TableRow.named) g.T.TableRow.shown c.select_text.result.now (c.select_text.ensures c.args.version c.requires.has) c.args.conn.now c.read_each.new.conn known c.read_each.result (c.read_each.ensures.rows clean) in
    rw c.from_vec.ensures (rw c.in_ok-read_each.was at listed)

pub returns-clause-exact : goal.returns-clause-exact
returns-clause-exact g c clean held has strict = listed_is (declared g.T.TableRow.named) held _ _ has strict (returns-clause-rows g c clean)

pub returns-in_err-read_each-clause-cause : goal.returns-in_err-read_each-clause-cause
returns-in_err-read_each-clause-cause g c clean =
    let known : c.args.conn.now.schema ≡ schema_under c.args.version = search rules in
    let fault = c.in_err-read_each.field-0.0 in
    let met : IsReadFault c.args.version c.table.result (declared g.T.TableRow.named) g.T.TableRow.shown (state g.S.Store c.args.conn.now) (state g.S.Store c.read_each.new.conn) fault =
    read_fault g.S.Store c.table.result (declared g.T.TableRow.named) g.T.TableRow.shown c.select_text.result.now (c.select_text.ensures c.args.version c.requires.has) c.args.conn.now c.read_each.new.conn known fault (c.in_err-read_each.ensures.cause clean) in
    let told = rw c.table.ensures at met in
    search rules
