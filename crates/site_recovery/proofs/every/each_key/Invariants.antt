use Rattle.site_core.proofs.OneAfterAnother.{AllBut}
use Rattle.site_recovery.proofs.every.each_key.Given as goal

-- each key before the ones to come passes
abbrev pub invariant-loop-key : goal.invariant-loop-key
invariant-loop-key g l = AllBut (g.T.Test.holds l.test) l.set.keys l.key-iterator
