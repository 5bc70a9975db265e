use Rattle.gap_core.specs.Adding.{AddsToList}
use Rattle.gap_core.specs.GapPacks.{IsPackOnce}
use Rattle.gap_core.proofs.Additions.{Before}
use Rattle.gap_core.proofs.packs.note_site.Given as goal

-- those of the events so far
abbrev pub invariant-loop-place : goal.invariant-loop-place
invariant-loop-place l = AddsToList l.fn.packs.items l.packs.items (Before l.place (IsPackOnce l.known l.wanted l.site l.source.at l.source.from l.packer))
