use Rattle.std.proofs.Common.{take}
use Rattle.trace_core.specs.Chains.{sites_at}
use Rattle.gap_core.specs.Adding.{AddsToList, ByOne}
use Rattle.gap_core.specs.Unlinked.{IsUnlinkedFrom}
use Rattle.gap_core.specs.declared.sources.Source.{Source}
use Rattle.gap_core.proofs.unlinked.note_container.Given as goal

-- what the packers so far put in
abbrev pub invariant-loop-source : goal.invariant-loop-source
invariant-loop-source l = AddsToList l.fn.found.items l.found.items (ByOne (take l.source-index l.source-items) (λ (source : Source). IsUnlinkedFrom (sites_at l.sites) l.at l.container source.from))
