use Rattle.std.proofs.Common.{take}
use Rattle.trace_core.specs.Chains.{sites_at}
use Rattle.gap_core.specs.Adding.{AddsToList, ByOne}
use Rattle.gap_core.specs.Touched.{IsTouchedOne}
use Rattle.gap_core.proofs.touched.note_gaps.Given as goal

-- those of the items so far
abbrev pub invariant-loop-gap : goal.invariant-loop-gap
invariant-loop-gap l = AddsToList l.fn.touched.items l.touched.items (ByOne (take l.gap-index l.gaps) (IsTouchedOne (sites_at l.sites) l.at l.wanted))
