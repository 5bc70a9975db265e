use Rattle.std.proofs.Common.{◌≡◌, false}
use Rattle.gap_core.specs.Adding.{AddsNothing, AddsTo}
use Rattle.gap_core.specs.Searches.{IsPassedAt}
use Rattle.gap_core.specs.Sources.{Keeps}
use Rattle.gap_core.proofs.Additions.{Before}
use Rattle.gap_core.proofs.searches.pass_all.Given as goal

-- the items so far
abbrev pub invariant-loop-place : goal.invariant-loop-place
invariant-loop-place l = record {
  added : AddsTo (Keeps l.fn.index) (Keeps l.index) (Before l.place (IsPassedAt l.sent l.fn.index l.at l.to));
  new : l.some ≡ false → AddsNothing (Keeps l.fn.index) (Keeps l.index);
}
