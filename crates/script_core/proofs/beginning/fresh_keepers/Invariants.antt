use Rattle.std.proofs.Common.{◌≡◌, map}
use Rattle.std.specs.List.{range_with_len}
use Rattle.script_core.specs.Beginning.{fresh_keeper}
use Rattle.script_core.proofs.beginning.fresh_keepers.Given as goal

-- a keeper of each site so far
abbrev pub invariant-loop-number : goal.invariant-loop-number
invariant-loop-number l = l.keepers.items ≡ map (fresh_keeper l.sites) (range_with_len 0 l.number)
