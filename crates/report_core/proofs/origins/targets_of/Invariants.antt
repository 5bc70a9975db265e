use Rattle.std.proofs.Common.{take}
use Rattle.trace_core.specs.Chains.{Related, sites_at}
use Rattle.trace_core.specs.Groups.{AddsUnseen, IsGivenBy}
use Rattle.trace_core.specs.Pairs.{pair_cmp}
use Rattle.trace_core.specs.Searches.{IsFound}
use Rattle.report_core.specs.Sources.{ByOne}
use Rattle.report_core.proofs.origins.targets_of.Given as goal

-- what the pairs so far are related to
abbrev pub invariant-loop-pair : goal.invariant-loop-pair
invariant-loop-pair l = AddsUnseen (IsGivenBy (sites_at l.sites)) (ByOne (take l.pair-index l.pairs) (Related (sites_at l.sites))) l.initial.seen l.seen (IsFound pair_cmp l.initial.found) (IsFound pair_cmp l.found)
