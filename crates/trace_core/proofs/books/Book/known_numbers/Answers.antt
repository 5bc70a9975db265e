use Rattle.std.proofs.Common.{subst, sym, arith}
use Rattle.std.proofs.lemmas.List.{take_all}
use Rattle.trace_core.specs.Numbers.{AreNumbersOf, numbered}
use Rattle.trace_core.proofs.HeldItems.{number_more, number_passed, no_numbers}
use Rattle.trace_core.proofs.books.Book.known_numbers.Goals as goal
use Rattle.trace_core.proofs.books.Book.known_numbers.Goals.{in-Some+in_ok-push, in_default}

pub loop-item-init : goal.loop-item-init
loop-item-init c = no_numbers (numbered c.args.self.now) c.new-numbers.result.items c.new-numbers.ensures.items

pub loop-item-preserved : goal.loop-item-preserved
loop-item-preserved c =
    elim c.match-number_of.branch [
      | in-Some+in_ok-push w ↦ rw w.numbers-is (number_more (numbered c.args.self.now) c.args.items.now c.loop-item.item-index c.item-item.result (omega arith) c.item-item.is c.loop-item.numbers.items c.loop-item.invariant
          w.in-Some.number (sym w.in-Some.ensures) w.push.new.self.items w.in_ok-push.ensures.items)
      | in_default w ↦ rw w.numbers-is (number_passed (numbered c.args.self.now) c.args.items.now c.loop-item.item-index c.item-item.result (omega arith) c.item-item.is c.loop-item.numbers.items c.loop-item.invariant w.in_default.ensures)
    ]

pub returns : goal.returns
returns c = subst (λ xs. AreNumbersOf (numbered c.args.self.now) xs c.loop-item.numbers.items) (take_all c.loop-item.item-index c.args.items.now (omega arith)) c.loop-item.invariant
