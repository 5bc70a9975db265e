use Rattle.std.specs.List.{Contains}
use Rattle.trace_core.specs.Chains.{sites_at}
use Rattle.trace_core.specs.Found.{Gives}
use Rattle.trace_core.specs.Nodes.{Stands}
use Rattle.trace_core.proofs.FoundSteps.{batches_give, nothing_has, all_given}
use Rattle.trace_core.proofs.Gathered.{gathering_begins, gathering_goes_on, gathering_ends}
use Rattle.trace_core.proofs.batches.pairs_in.Goals as goal

pub loop-batch-init : goal.loop-batch-init
loop-batch-init c = gathering_begins (Gives (sites_at c.args.sites.now)) c.args.batches.now.entries (λ p. ⊥) c.into_iter-batch-iterator.result (Contains c.new-pairs.result.items)
    c.into_iter-batch-iterator.ensures.into_iter_gives.0 (nothing_has c.new-pairs.result.items c.new-pairs.ensures.items)

pub loop-batch-preserved : goal.loop-batch-preserved
loop-batch-preserved c = gathering_goes_on (Gives (sites_at c.args.sites.now)) c.args.batches.now.entries (λ p. ⊥) c.loop-batch.batch-iterator c.next.new.self _ (Contains c.loop-batch.pairs.items) (Contains c.push_batch.new.pairs.items) c.in-Some.ensures.steps
    c.in_ok-push_batch.ensures c.loop-batch.invariant

pub returns : goal.returns
returns c p = all_given
    (gathering_ends (Gives (sites_at c.args.sites.now)) c.args.batches.now.entries (λ p. ⊥) c.loop-batch.batch-iterator (Contains c.loop-batch.pairs.items) c.in-None.ensures.steps.0 c.loop-batch.invariant p)
    (batches_give (Stands (sites_at c.args.sites.now)) c.args.batches.now c.into_iter-batch-iterator.ensures.into_iter_gives.5 p)
