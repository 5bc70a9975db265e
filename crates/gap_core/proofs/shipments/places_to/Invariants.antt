use Rattle.std.proofs.Common.{[]}
use mathlib.Core.Logic.{inl}
use Rattle.gap_core.specs.Adding.{AddsToList}
use Rattle.gap_core.specs.Shipments.{IsPlaceTo}
use Rattle.gap_core.proofs.Additions.{Before}
use Rattle.gap_core.proofs.shipments.places_to.Given as goal

-- those of the events so far
abbrev pub invariant-loop-place : goal.invariant-loop-place
invariant-loop-place l = AddsToList [] l.places (Before l.place (IsPlaceTo l.site.events (inl l.to)))
