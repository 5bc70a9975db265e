use Rattle.std.proofs.Common.{◌≡◌, ◌++◌, map, drop}
use Rattle.std.specs.List.{enumerate_from}
use Rattle.site_rows.specs.RecordRows.{part_row, part_rows, name_of}
use Rattle.site_rows.proofs.event_rows.push_sites.Given as goal

-- the rows so far and those of the rest are all of them
abbrev pub invariant-loop-place : goal.invariant-loop-place
invariant-loop-place l = l.rows.items ++ map (part_row l.event 1) (enumerate_from l.place (map (name_of l.sites) (drop l.place l.to))) ≡ l.fn.rows.items ++ part_rows l.event 1 (map (name_of l.sites) l.to)
