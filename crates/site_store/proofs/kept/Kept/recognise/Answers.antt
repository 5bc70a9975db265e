use Rattle.std.proofs.Common.{Option, subst}
use Rattle.site_core.specs.Records.{Record}
use Rattle.site_store.specs.Standing.{IsNextOf}
use Rattle.site_store.proofs.Standings.{none_has, neither_has}
use Rattle.site_store.proofs.kept.Kept.recognise.Goals as goal

pub returns-in-Ok-Some-clause-other : goal.returns-in-Ok-Some-clause-other
returns-in-Ok-Some-clause-other c = λ is.
    let standing = c.args.self.now.standing in
    neither_has c.args.rows.now standing c.in-Ok-false.field-0 c.state.result.now c.in-Ok-Some.next c.state.ensures c.in-Ok-false.field-0-test c.in-Ok-false.ensures.same
    (subst (λ (next : Option Record). IsNextOf standing next) c.in-Ok-Some.field-0-is c.in-Ok-Some.ensures) (c.recognise_next.ensures.other is)

pub returns-in-Ok-None-clause-other : goal.returns-in-Ok-None-clause-other
returns-in-Ok-None-clause-other c = λ is.
    let standing = c.args.self.now.standing in
    none_has c.args.rows.now standing c.in-Ok-false.field-0 c.state.result.now c.state.ensures c.in-Ok-false.field-0-test c.in-Ok-false.ensures.same
    (subst (λ (next : Option Record). IsNextOf standing next) c.in-Ok-None.field-0-is c.in-Ok-None.ensures)
