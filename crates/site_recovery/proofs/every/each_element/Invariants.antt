use Rattle.site_core.proofs.OneAfterAnother.{PassedBelow}
use Rattle.site_recovery.proofs.every.each_element.Given as goal

-- each element below the place passes
abbrev pub invariant-loop-element : goal.invariant-loop-element
invariant-loop-element g l = PassedBelow (g.T.Test.holds l.test) l.elements l.element-index
