use Rattle.std.proofs.Common.{◌≡◌, ◌++◌, ◌+◌, map, drop}
use Rattle.std.specs.List.{enumerate_from}
use Rattle.site_rows.specs.EventTexts.{HasPlainIds}
use Rattle.site_rows.specs.RecordRows.{event_row}
use Rattle.site_rows.proofs.FromPlaces.{PassesFrom}
use Rattle.site_rows.proofs.event_rows.event_rows.Given as goal

-- the rows so far and those of the rest are all of them, and the events so far have plain ids
abbrev pub invariant-loop-place : goal.invariant-loop-place
invariant-loop-place l = record {
  rows : l.rows.items ++ map event_row (enumerate_from (l.place + 1) (drop l.place l.captured.events)) ≡ map event_row (enumerate_from (l.from + 1) (drop l.from l.captured.events));
  ids : PassesFrom HasPlainIds l.from l.captured.events l.place;
}
