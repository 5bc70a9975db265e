use Rattle.std.proofs.Common.{ap}
use Rattle.std.specs.List.{Contains}
use Rattle.trace_core.specs.Found.{items_at}
use Rattle.trace_core.proofs.FoundSteps.{HasThisNumber, nothing_has, all_given}
use Rattle.trace_core.proofs.Gathered.{gathering_begins, gathering_goes_on, gathering_ends}
use Rattle.trace_core.proofs.found_items.items_in_turn.Goals as goal

pub loop-number-init : goal.loop-number-init
loop-number-init c = gathering_begins (HasThisNumber c.args.book.now) c.args.numbers.now.keys (λ i. ⊥) c.into_iter-number-iterator.result (Contains (items_at c.new-items.result.items))
    c.into_iter-number-iterator.ensures.into_iter_gives.0 (nothing_has (items_at c.new-items.result.items) (ap items_at c.new-items.ensures.items))

pub loop-number-preserved : goal.loop-number-preserved
loop-number-preserved c = gathering_goes_on (HasThisNumber c.args.book.now) c.args.numbers.now.keys (λ i. ⊥) c.loop-number.number-iterator c.next.new.self c.in-Some.number.now (Contains (items_at c.loop-number.items.items)) (Contains (items_at c.push_numbered.new.items.items))
    c.in-Some.ensures.steps c.in_ok-push_numbered.ensures c.loop-number.invariant

pub returns : goal.returns
returns c i = all_given
    (gathering_ends (HasThisNumber c.args.book.now) c.args.numbers.now.keys (λ i. ⊥) c.loop-number.number-iterator (Contains (items_at c.loop-number.items.items)) c.in-None.ensures.steps.0 c.loop-number.invariant i)
    (λ h. h, λ h. h)
