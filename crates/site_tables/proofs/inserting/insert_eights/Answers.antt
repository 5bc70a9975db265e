use Rattle.std.proofs.Common.{◌≡◌, ◌+◌, ◌*◌, take, map, subst, rules, arith}
use Rattle.sqlite.specs.Held.{state}
use Rattle.site_tables.specs.Tables.{declared}
use Rattle.site_tables.specs.TableRows.{HasWritten, adds}
use Rattle.site_tables.proofs.Steps.{part_added, part_failed}
use Rattle.site_tables.proofs.inserting.insert_eights.Goals as goal

pub loop-group-preserved : goal.loop-group-preserved
loop-group-preserved g c =
    let inv = c.loop-group.invariant in
    let from = c.loop-group.group * 8 in
    let next : from + 8 ≡ (c.loop-group.group + 1) * 8 = omega arith in (
      search rules,
      subst (λ n. HasWritten (declared g.T.TableRow.named) (adds (map g.T.TableRow.shown (take n c.args.rows.now))) (state g.S.Store c.args.tx.now.conn.now) (state g.S.Store c.insert_together.new.tx.conn.now)) next
          (part_added (declared g.T.TableRow.named) g.T.TableRow.shown c.args.rows.now from (from + 8) (omega arith) c.in_ok-insert_together.was inv.1 c.insert_together.ensures.wrote),
      search rules,
    )

pub returns-in_err-insert_together-clause-wrote : goal.returns-in_err-insert_together-clause-wrote
returns-in_err-insert_together-clause-wrote g c =
    let from = c.loop-group.group * 8 in
    part_failed (declared g.T.TableRow.named) g.T.TableRow.shown c.args.rows.now from (from + 8) c.in_err-insert_together.was (search rules) c.loop-group.invariant.1 c.insert_together.ensures.wrote
