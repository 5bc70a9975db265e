use Rattle.std.proofs.Common.{◌≡◌, replicate, true}
use Rattle.site_recovery.proofs.narrowing.all_sites.Given as goal

-- as many as counted
abbrev pub invariant-loop : goal.invariant-loop
invariant-loop l = l.all.items ≡ replicate l.counter true
