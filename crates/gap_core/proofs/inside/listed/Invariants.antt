use Rattle.std.proofs.Common.{◌≡◌, [], Some, slice_get}
use Rattle.gap_core.specs.Adding.{AddsToList}
use Rattle.gap_core.proofs.Additions.{Before}
use Rattle.gap_core.proofs.inside.listed.Given as goal

-- those at the places so far
abbrev pub invariant-loop-place : goal.invariant-loop-place
invariant-loop-place l = AddsToList [] l.items.items (Before l.place (λ k i. slice_get l.found k ≡ Some i))
