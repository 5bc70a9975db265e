use Rattle.trace_core.specs.Chains.{sites_at}
use Rattle.gap_core.specs.Adding.{AddsToList, ByOneAt}
use Rattle.gap_core.specs.Used.{IsLeft}
use Rattle.gap_core.proofs.Additions.{Before}
use Rattle.gap_core.proofs.used.note_containers.Given as goal

-- those of the inputs so far
abbrev pub invariant-loop-place : goal.invariant-loop-place
invariant-loop-place l = AddsToList l.fn.used.items l.used.items (Before l.place (ByOneAt l.inputs (IsLeft (sites_at l.sites) l.at l.inputs)))
