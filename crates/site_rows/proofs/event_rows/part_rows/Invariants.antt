use Rattle.std.proofs.Common.{◌≡◌, ◌++◌, ◌+◌, drop}
use Rattle.std.specs.List.{enumerate_from, flat_map}
use Rattle.event_json.specs.Events.{Content}
use Rattle.site_rows.specs.EventTexts.{HasParts}
use Rattle.site_rows.specs.RecordRows.{parts_of}
use Rattle.site_rows.proofs.FromPlaces.{PassesFrom}
use Rattle.site_rows.proofs.event_rows.part_rows.Given as goal

-- the rows so far and those of the rest are all of them, and the members of the events so far are items and plain texts
abbrev pub invariant-loop-place : goal.invariant-loop-place
invariant-loop-place l = record {
  rows : l.rows.items ++ flat_map (parts_of l.sites) (enumerate_from (l.place + 1) (drop l.place l.captured.events)) ≡ flat_map (parts_of l.sites) (enumerate_from (l.from + 1) (drop l.from l.captured.events));
  parts : PassesFrom (λ (e : Content). HasParts e.body) l.from l.captured.events l.place;
}
