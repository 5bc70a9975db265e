use Rattle.trace_core.specs.Chains.{sites_at}
use Rattle.gap_core.specs.Adding.{AddsToList}
use Rattle.gap_core.specs.GapPacks.{IsPackFrom}
use Rattle.gap_core.proofs.Additions.{Before}
use Rattle.gap_core.proofs.packs.note_all.Given as goal

-- those of the sites so far
abbrev pub invariant-loop-from : goal.invariant-loop-from
invariant-loop-from l = AddsToList l.fn.packs.items l.packs.items (Before l.from (IsPackFrom (sites_at l.sites) l.known l.wanted l.site l.at))
