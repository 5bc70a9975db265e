use Rattle.std.proofs.Common.{◌≤◌, ℕ}
use Rattle.report_core.specs.Leaving.{UnderAt}
use Rattle.report_core.proofs.outside_events.first_under.Given as goal

-- none of the carriers so far
abbrev pub invariant-loop-number : goal.invariant-loop-number
invariant-loop-number l = (k : ℕ) → UnderAt l.shipments l.place l.carriers k → l.number ≤ k
