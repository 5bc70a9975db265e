use Rattle.std.proofs.Common.{◌≡◌, ◌++◌, ◌+◌, drop}
use Rattle.std.specs.List.{enumerate_from, flat_map}
use Rattle.event_json.specs.Events.{Content}
use Rattle.site_rows.specs.EventTexts.{HasChildren}
use Rattle.site_rows.specs.RecordRows.{children_of}
use Rattle.site_rows.proofs.FromPlaces.{PassesFrom}
use Rattle.site_rows.proofs.event_rows.packed_rows.Given as goal

-- the rows so far and those of the rest are all of them, and the children so far are items
abbrev pub invariant-loop-place : goal.invariant-loop-place
invariant-loop-place l = record {
  rows : l.rows.items ++ flat_map children_of (enumerate_from (l.place + 1) (drop l.place l.captured.events)) ≡ flat_map children_of (enumerate_from (l.from + 1) (drop l.from l.captured.events));
  children : PassesFrom (λ (e : Content). HasChildren e.body) l.from l.captured.events l.place;
}
