use Rattle.std.proofs.Common.{rules, arith}
use Rattle.site_tables.proofs.Folded.{each_changed, each_failed}
use Rattle.site_tables.proofs.in_turn.write_each.Goals as goal

pub loop-element-preserved : goal.loop-element-preserved
loop-element-preserved g c =
    let inv = c.loop-element.invariant in
    let it = c.write.ensures in (
      search rules,
      each_changed g.C.TableChange.change c.args.elements.now c.loop-element.element-index c.loop-element-test.true c.element-item.is c.in_ok-write.was inv.1 it.wrote,
      omega (arith, it.counted, inv.2),
    )

pub returns-in_err-write-clause-wrote : goal.returns-in_err-write-clause-wrote
returns-in_err-write-clause-wrote g c =
    each_failed g.C.TableChange.change c.args.elements.now c.loop-element.element-index c.in_err-write.was (search rules) c.loop-element.invariant.1 c.write.ensures.wrote
