use Rattle.std.proofs.Common.{◌<◌}
use Rattle.site_tests.proofs.seeded.worlds.keepers.Given as goal

abbrev pub invariant-loop-place : goal.invariant-loop-place
invariant-loop-place l = 0 < l.count
