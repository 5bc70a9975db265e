use Rattle.std.proofs.Common.{rules, ◌≢◌, true, refl}
use Rattle.report_core.proofs.StepsWanted.{item_inserted, step_wanted, steps_stay}
use Rattle.report_core.proofs.wanted_steps.add_step.Goals as goal

pub returns-then-eq-clause-before : goal.returns-then-eq-clause-before
returns-then-eq-clause-before c =
    steps_stay c.args.wanted.now (record { items = c.insert-2.new.self; ships = true }) c.args.from.now c.args.to.now c.insert.new.self
    (item_inserted c.args.wanted.now.items c.insert.new.self c.args.from.now.item c.in_ok-copy.field-0 c.in_ok-copy.ensures c.in_ok-insert.ensures.updates)
    (item_inserted c.insert.new.self c.insert-2.new.self c.args.to.now.item c.in_ok-copy-2.field-0 c.in_ok-copy-2.ensures c.in_ok-insert-2.ensures.updates)
    (λ ships. refl)

pub returns-then-eq-clause-new : goal.returns-then-eq-clause-new
returns-then-eq-clause-new c =
    step_wanted c.args.wanted.now (record { items = c.insert-2.new.self; ships = true }) c.args.from.now c.args.to.now c.insert.new.self
    (item_inserted c.args.wanted.now.items c.insert.new.self c.args.from.now.item c.in_ok-copy.field-0 c.in_ok-copy.ensures c.in_ok-insert.ensures.updates)
    (item_inserted c.insert.new.self c.insert-2.new.self c.args.to.now.item c.in_ok-copy-2.field-0 c.in_ok-copy-2.ensures c.in_ok-insert-2.ensures.updates)
    (λ same. refl)

pub returns-else-eq-clause-before : goal.returns-else-eq-clause-before
returns-else-eq-clause-before c =
    steps_stay c.args.wanted.now (record { items = c.insert-2.new.self; ships = c.args.wanted.now.ships }) c.args.from.now c.args.to.now c.insert.new.self
    (item_inserted c.args.wanted.now.items c.insert.new.self c.args.from.now.item c.in_ok-copy.field-0 c.in_ok-copy.ensures c.in_ok-insert.ensures.updates)
    (item_inserted c.insert.new.self c.insert-2.new.self c.args.to.now.item c.in_ok-copy-2.field-0 c.in_ok-copy-2.ensures c.in_ok-insert-2.ensures.updates)
    (λ ships. ships)

pub returns-else-eq-clause-new : goal.returns-else-eq-clause-new
returns-else-eq-clause-new c =
    let other : c.args.to.now.item ≢ c.args.from.now.item = search rules in
    step_wanted c.args.wanted.now (record { items = c.insert-2.new.self; ships = c.args.wanted.now.ships }) c.args.from.now c.args.to.now c.insert.new.self
    (item_inserted c.args.wanted.now.items c.insert.new.self c.args.from.now.item c.in_ok-copy.field-0 c.in_ok-copy.ensures c.in_ok-insert.ensures.updates)
    (item_inserted c.insert.new.self c.insert-2.new.self c.args.to.now.item c.in_ok-copy-2.field-0 c.in_ok-copy-2.ensures c.in_ok-insert-2.ensures.updates)
    (λ same. absurd (other same))
