use Rattle.std.proofs.Common.{◌≡◌, take}
use Rattle.std.specs.List.{filter}
use Rattle.report_core.proofs.OriginsFound.{is_no_target}
use Rattle.report_core.proofs.origins.origins_of.Given as goal

-- those of the pairs so far
abbrev pub invariant-loop-pair : goal.invariant-loop-pair
invariant-loop-pair l = l.origins.items ≡ filter (is_no_target l.targets) (take l.pair-index l.pairs)
