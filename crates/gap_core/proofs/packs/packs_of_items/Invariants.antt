use Rattle.std.proofs.Common.{[]}
use Rattle.trace_core.specs.Chains.{sites_at}
use Rattle.gap_core.specs.Adding.{AddsToList}
use Rattle.gap_core.specs.GapPacks.{IsItemPackAt}
use Rattle.gap_core.proofs.Additions.{Before}
use Rattle.gap_core.proofs.packs.packs_of_items.Given as goal

-- those for the sites so far
abbrev pub invariant-loop-at : goal.invariant-loop-at
invariant-loop-at l = AddsToList [] l.packs.items (Before l.at (IsItemPackAt (sites_at l.sites) l.site l.items))
