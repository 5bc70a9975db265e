use Rattle.gap_core.proofs.TouchedSteps.{HaveNone}
use Rattle.gap_core.proofs.touched.have_common.Given as goal

-- none so far is in both
abbrev pub invariant-loop-place : goal.invariant-loop-place
invariant-loop-place l = HaveNone l.inside l.wanted l.place
