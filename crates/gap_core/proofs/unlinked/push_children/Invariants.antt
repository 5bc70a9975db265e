use Rattle.gap_core.specs.Adding.{AddsToList, ByOneAt}
use Rattle.gap_core.specs.Unlinked.{IsUnknownItem}
use Rattle.gap_core.proofs.Additions.{Before}
use Rattle.gap_core.proofs.unlinked.push_children.Given as goal

-- those of the children so far
abbrev pub invariant-loop-place : goal.invariant-loop-place
invariant-loop-place l = AddsToList l.fn.found.items l.found.items (Before l.place (ByOneAt l.children (IsUnknownItem l.site l.container l.by l.inside)))
