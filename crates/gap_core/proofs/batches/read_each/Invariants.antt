use Rattle.std.proofs.Common.{◌<◌, ℕ, take}
use Rattle.std.specs.List.{Contains}
use Rattle.gap_core.proofs.batches.read_each.Given as goal

-- those of the sites so far
abbrev pub invariant-loop-site : goal.invariant-loop-site
invariant-loop-site l = (t : ℕ) → Contains (take l.site-index l.sites) t → t < 16
