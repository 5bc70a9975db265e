use Rattle.std.proofs.Common.{◌≡◌, ◌++◌, ◌+◌, drop}
use Rattle.std.specs.List.{enumerate_from, flat_map}
use Rattle.event_json.specs.Events.{Content}
use Rattle.site_rows.specs.EventTexts.{HasParent}
use Rattle.site_rows.specs.RecordRows.{packs_of}
use Rattle.site_rows.proofs.FromPlaces.{PassesFrom}
use Rattle.site_rows.proofs.event_rows.pack_rows.Given as goal

-- the rows so far and those of the rest are all of them, and the parents so far are items
abbrev pub invariant-loop-place : goal.invariant-loop-place
invariant-loop-place l = record {
  rows : l.rows.items ++ flat_map packs_of (enumerate_from (l.place + 1) (drop l.place l.captured.events)) ≡ flat_map packs_of (enumerate_from (l.from + 1) (drop l.from l.captured.events));
  parents : PassesFrom (λ (e : Content). HasParent e.body) l.from l.captured.events l.place;
}
