use Rattle.std.proofs.Common.{take}
use Rattle.trace_core.specs.Chains.{sites_at}
use Rattle.gap_core.specs.Adding.{ByOne, NotesThose}
use Rattle.gap_core.specs.Sources.{IsPackedBySource}
use Rattle.gap_core.proofs.walks.note_inside.Given as goal

-- what the sources so far packed
abbrev pub invariant-loop-source : goal.invariant-loop-source
invariant-loop-source l = NotesThose (ByOne (take l.source-index l.source-items) (IsPackedBySource (sites_at l.sites) l.at l.item)) l.fn.found l.found
