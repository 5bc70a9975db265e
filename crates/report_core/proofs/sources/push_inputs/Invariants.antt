use Rattle.std.proofs.Common.{take}
use Rattle.std.specs.List.{Contains}
use Rattle.trace_core.specs.Chains.{sites_at}
use Rattle.trace_core.specs.Groups.{AddsUnseen}
use Rattle.report_core.specs.Sources.{ByOne, GoesIntoAt, GoesIntoSeen}
use Rattle.report_core.proofs.sources.push_inputs.Given as goal

-- those of the places so far
abbrev pub invariant-loop-place : goal.invariant-loop-place
invariant-loop-place l = AddsUnseen (GoesIntoSeen (sites_at l.sites)) (ByOne (take l.place-index l.places) (GoesIntoAt (sites_at l.sites) l.at)) l.fn.seen l.seen (Contains l.fn.found.items) (Contains l.found.items)
