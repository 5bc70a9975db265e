use Rattle.std.proofs.Common.{◌+◌, rules, arith}
use Rattle.site_tables.specs.Tables.{declared}
use Rattle.site_tables.proofs.Steps.{part_added, part_failed}
use Rattle.site_tables.proofs.inserting.insert_each.Goals as goal

pub loop-at-preserved : goal.loop-at-preserved
loop-at-preserved g c =
    let inv = c.loop-at.invariant in
    let at = c.loop-at.at in (
      search rules,
      part_added (declared g.T.TableRow.named) g.T.TableRow.shown c.args.rows.now at (at + 1) (omega arith) c.in_ok-insert_together.was inv.1 c.insert_together.ensures.wrote,
      search rules,
    )

pub returns-in_err-insert_together-clause-wrote : goal.returns-in_err-insert_together-clause-wrote
returns-in_err-insert_together-clause-wrote g c =
    let at = c.loop-at.at in
    part_failed (declared g.T.TableRow.named) g.T.TableRow.shown c.args.rows.now at (at + 1) c.in_err-insert_together.was (search rules) c.loop-at.invariant.1 c.insert_together.ensures.wrote
