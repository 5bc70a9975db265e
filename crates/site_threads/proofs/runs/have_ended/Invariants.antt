use Rattle.std.specs.Prelude.{IsTrue}
use Rattle.std.specs.FinMap as map
use Rattle.site_core.proofs.OneAfterAnother.{AllBut}
use Rattle.site_threads.proofs.runs.have_ended.Given as goal

-- each recall before those to come has ended
abbrev pub invariant-loop-own : goal.invariant-loop-own
invariant-loop-own l = AllBut (λ e. IsTrue e.1.ended) (map.entries l.state.engagement.own) l.own-iterator
