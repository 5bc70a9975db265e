use Rattle.std.proofs.Common.{◌+◌, refl, ap, ◌∙◌, arith}
use Rattle.std.proofs.lemmas.List.{take_all}
use Rattle.trace_core.specs.Numbers.{names_of, numbers_of}
use Rattle.trace_core.proofs.ItemSteps.{knows_nothing, know_one, number_one, know_each, know_stops}
use Rattle.trace_core.proofs.PlaceSteps.{after_fault}
use Rattle.trace_core.proofs.event_items.know_numbers.Goals as goal

pub returns-in_err-reserve-clause-err : goal.returns-in_err-reserve-clause-err
returns-in_err-reserve-clause-err c = after_fault c.from_residual.result (knows_nothing c.args.known.now)

pub returns-in_err-number-clause-err : goal.returns-in_err-number-clause-err
returns-in_err-number-clause-err c = after_fault c.from_residual-in_err-number.result
    (know_stops c.args.known.now c.loop-item.known c.know.new.self c.args.items.now c.loop-item.item-index c.loop-item.invariant.known c.in_err-number.ensures.err)

pub returns-in_err-push-clause-err : goal.returns-in_err-push-clause-err
returns-in_err-push-clause-err c = after_fault c.from_residual-in_err-push.result
    (know_stops c.args.known.now c.know.new.self c.know.new.self c.args.items.now (c.loop-item.item-index + 1)
    (know_one c.args.known.now c.loop-item.known c.know.new.self c.args.items.now c.loop-item.item-index c.item-item.result (omega arith) c.item-item.is c.in_ok-number.ensures.ok c.loop-item.invariant.known) refl)

pub loop-item-preserved : goal.loop-item-preserved
loop-item-preserved c = record {
  known = know_one c.args.known.now c.loop-item.known c.know.new.self c.args.items.now c.loop-item.item-index c.item-item.result (omega arith) c.item-item.is c.in_ok-number.ensures.ok c.loop-item.invariant.known;
  numbers = number_one c.args.known.now c.loop-item.known c.know.new.self c.args.items.now c.loop-item.item-index c.item-item.result c.in_ok-number.number c.loop-item.numbers c.push.new.self (omega arith) c.item-item.is
      c.in_ok-number.ensures.ok c.in_ok-number.ensures.number c.loop-item.invariant.known c.loop-item.invariant.numbers c.in_ok-push.ensures.ok;
}

pub returns-clause-ok : goal.returns-clause-ok
returns-clause-ok c = know_each c.args.known.now c.loop-item.known c.loop-item.known c.args.items.now c.loop-item.item-index (omega arith) c.loop-item.invariant.known

pub returns-clause-numbers : goal.returns-clause-numbers
returns-clause-numbers c = c.loop-item.invariant.numbers ∙ ap (numbers_of (names_of c.loop-item.known)) (take_all c.loop-item.item-index c.args.items.now (omega arith))
