use Rattle.std.proofs.Common.{rules, ◌≡◌, map, ap, ◌∙◌, arith}
use Rattle.std.specs.List.{flat_map}
use Rattle.std.proofs.lemmas.List.{take_all}
use Rattle.sqlite.specs.State.{HasCleanDisk}
use Rattle.sqlite.specs.Held.{state}
use Rattle.sqlite.specs.Values.{bound}
use Rattle.site_tables.specs.Tables.{declared}
use Rattle.site_tables.specs.TableRows.{adds}
use Rattle.site_tables.proofs.Steps.{ran, inserts, succeeds, fails}
use Rattle.site_tables.proofs.inserting.insert_together.Goals as goal

pub returns-clause-wrote : goal.returns-clause-wrote
returns-clause-wrote g c =
    let it = c.execute.ensures in
    let old = c.args.tx.now.conn.now in
    let new = c.execute.new.self.conn.now in
    let rows = c.args.rows.now in
    let listed = (declared g.T.TableRow.named) in
    let shown = g.T.TableRow.shown in
    let values : bound c.as_slice.result.now ≡ flat_map shown rows = ap bound c.as_slice.ensures.value ∙ c.loop-row.invariant.0 ∙ ap (flat_map shown) (take_all c.loop-row.row-index rows (omega (arith, c.loop-row-test.false, c.loop-row.auto.row-index-end))) in
    succeeds listed (adds (map shown rows)) (state g.S.Store old) (state g.S.Store new) c.execute.result _ _ c.in_ok-execute.was
    (inserts listed shown rows c.args.text.now c.requires
    (ran g.S.Store it.ended (λ (clean : HasCleanDisk (state g.S.Store new)). rw values at (it.runs clean)) it.survives))

pub returns-in_err-execute-clause-wrote : goal.returns-in_err-execute-clause-wrote
returns-in_err-execute-clause-wrote g c =
    let it = c.execute.ensures in
    let old = c.args.tx.now.conn.now in
    let new = c.execute.new.self.conn.now in
    let rows = c.args.rows.now in
    let listed = (declared g.T.TableRow.named) in
    let shown = g.T.TableRow.shown in
    let values : bound c.as_slice.result.now ≡ flat_map shown rows = ap bound c.as_slice.ensures.value ∙ c.loop-row.invariant.0 ∙ ap (flat_map shown) (take_all c.loop-row.row-index rows (omega (arith, c.loop-row-test.false, c.loop-row.auto.row-index-end))) in
    fails listed (adds (map shown rows)) (adds (map shown rows)) (state g.S.Store old) (state g.S.Store new) c.execute.result _ c.from_residual.result c.in_err-execute.was (search rules)
    (inserts listed shown rows c.args.text.now c.requires
    (ran g.S.Store it.ended (λ (clean : HasCleanDisk (state g.S.Store new)). rw values at (it.runs clean)) it.survives))
