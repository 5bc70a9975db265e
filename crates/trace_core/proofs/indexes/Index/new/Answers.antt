use Rattle.trace_core.proofs.IndexSteps.{nothing_there}
use Rattle.trace_core.proofs.indexes.Index.new.Goals as goal

pub returns : goal.returns
returns c = nothing_there _ c.new.ensures c.new-2.ensures.items c.new-3.ensures c.with_hasher.ensures.empty c.new-4.ensures c.new-5.ensures.items c.new-6.ensures
