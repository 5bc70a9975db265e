use Rattle.std.proofs.Common.{[]}
use Rattle.gap_core.specs.Adding.{AddsToList}
use Rattle.gap_core.specs.Elsewhere.{IsPlaceElsewhere}
use Rattle.gap_core.proofs.Additions.{Before}
use Rattle.gap_core.proofs.elsewhere.places_elsewhere.Given as goal

-- those of the events so far
abbrev pub invariant-loop-place : goal.invariant-loop-place
invariant-loop-place l = AddsToList [] l.places (Before l.place (IsPlaceElsewhere l.site))
