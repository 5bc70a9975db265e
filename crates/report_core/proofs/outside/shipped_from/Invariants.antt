use Rattle.site_recovery.specs.Checking.{world_at}
use Rattle.report_core.specs.Gathering.{Adds, FirstTell}
use Rattle.report_core.proofs.outside.shipped_from.Given as goal

-- those of the sites so far
abbrev pub invariant-loop-place : goal.invariant-loop-place
invariant-loop-place l = Adds l.initial.found l.found (FirstTell (world_at l.sites) l.sets.items l.place)
