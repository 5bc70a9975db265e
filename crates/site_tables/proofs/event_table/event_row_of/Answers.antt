use Rattle.std.proofs.Common.{◌≡◌, length, rules}
use Rattle.site_tables.proofs.Columns.{six_columns}
use Rattle.site_tables.proofs.event_table.event_row_of.Goals as goal

pub returns-clause-ok : goal.returns-clause-ok
returns-clause-ok c =
    let many : length c.args.row.now ≡ 6 = search rules in
    let n0 = c.in_ok-no.ensures.ok in
    let n1 = c.in_ok-id.ensures.ok in
    let n2 = c.in_ok-seconds.ensures.ok in
    let n3 = c.in_ok-nanos.ensures.ok in
    let n4 = c.in_ok-kind.ensures.ok in
    let n5 = c.in_ok-make_id.ensures.ok in
    let is = six_columns c.args.row.now _ _ _ _ _ _ many n0.1 n1 n2.1 n3.1 n4.1 n5 in
    search (rules, is)
