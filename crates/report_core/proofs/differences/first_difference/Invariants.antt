use Rattle.std.proofs.Common.{◌≡◌, length, drop, ◌-◌}
use Rattle.report_core.specs.Differences.{difference}
use Rattle.report_core.proofs.differences.first_difference.Given as goal

-- what comes from here on parts as the whole lists do
abbrev pub invariant-loop-place : goal.invariant-loop-place
invariant-loop-place l = difference (drop l.place l.first) (drop l.place l.second) ≡ difference l.first l.second

abbrev pub decreases-loop-place : goal.decreases-loop-place
decreases-loop-place l = length l.first - l.place
