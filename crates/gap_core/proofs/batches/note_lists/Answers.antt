use Rattle.std.specs.List.{Contains}
use Rattle.trace_core.proofs.Gathered.{gathering_begins, gathering_ends, gathering_goes_on}
use Rattle.gap_core.proofs.BatchSteps.{IsListOf, outside_added}
use Rattle.gap_core.proofs.batches.note_lists.Goals as goal

pub loop-text-init : goal.loop-text-init
loop-text-init c = gathering_begins IsListOf c.args.outside.now.entries (Contains c.args.batches.now.items) c.into_iter-text-iterator.result (Contains c.args.batches.now.items)
    c.into_iter-text-iterator.ensures.into_iter_gives.0 (λ x. (λ h. h, λ h. h))

pub loop-text-preserved : goal.loop-text-preserved
loop-text-preserved c = gathering_goes_on IsListOf c.args.outside.now.entries (Contains c.args.batches.now.items) c.loop-text.text-iterator c.next.new.self (c.in-Some.text.now, c.in-Some.places.now) (Contains c.loop-text.batches.items) (Contains c.push_copy.new.batches.items)
    c.in-Some.ensures.steps c.in_ok-push_copy.ensures c.loop-text.invariant

pub returns : goal.returns
returns c events are = outside_added events c.args.outside.now c.args.batches.now.items c.loop-text.batches.items c.into_iter-text-iterator.ensures.into_iter_gives.5 are
    (gathering_ends IsListOf c.args.outside.now.entries (Contains c.args.batches.now.items) c.loop-text.text-iterator (Contains c.loop-text.batches.items) c.in-None.ensures.steps.0 c.loop-text.invariant)
