use Rattle.std.proofs.Common.{◌≡◌, false, take}
use Rattle.std.specs.List.{Contains}
use Rattle.gap_core.specs.Adding.{AddsNothing, AddsToList, ByOne}
use Rattle.gap_core.specs.Sources.{IsPassedBy}
use Rattle.gap_core.proofs.sources.Sources.pass_each.Given as goal

-- the sources so far
abbrev pub invariant-loop-source : goal.invariant-loop-source
invariant-loop-source l = record {
  added : AddsToList l.fn.self l.self (ByOne (take l.source-index l.known) (IsPassedBy l.at l.to));
  new : l.some ≡ false → AddsNothing (Contains l.fn.self) (Contains l.self);
}
