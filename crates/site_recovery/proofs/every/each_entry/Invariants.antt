use Rattle.site_core.proofs.OneAfterAnother.{AllBut}
use Rattle.site_recovery.proofs.every.each_entry.Given as goal

-- each entry before the ones to come passes
abbrev pub invariant-loop-key : goal.invariant-loop-key
invariant-loop-key g l = AllBut (λ e. g.T.EntryTest.holds l.test e.0 e.1) l.map.entries l.key-iterator
