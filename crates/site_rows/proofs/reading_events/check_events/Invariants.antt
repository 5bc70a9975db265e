use Rattle.std.proofs.Common.{◌≡◌, ℕ, ◌<◌, Some}
use Rattle.std.specs.List.{slice_get}
use Rattle.site_rows.specs.BadEvents.{IsEvent}
use Rattle.site_rows.specs.declared.rows.EventRow.{EventRow}
use Rattle.site_rows.proofs.reading_events.check_events.Given as goal

-- each row so far is one of an event
abbrev pub invariant-loop-place : goal.invariant-loop-place
invariant-loop-place l = (k : ℕ) (r : EventRow) → k < l.place → slice_get l.rows k ≡ Some r → IsEvent l.kinds k r
