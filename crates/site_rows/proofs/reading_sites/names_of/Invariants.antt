use Rattle.std.proofs.Common.{◌≡◌, map, take}
use Rattle.std.specs.List.{enumerate_from}
use Rattle.site_rows.specs.RecordRows.{site_row}
use Rattle.site_rows.proofs.reading_sites.names_of.Given as goal

-- the rows so far are those of the sites so far
abbrev pub invariant-loop-place : goal.invariant-loop-place
invariant-loop-place l = take l.place l.rows ≡ map site_row (enumerate_from 0 l.names)
