use Rattle.std.proofs.Common.{◌≡◌, ◌++◌, map, drop}
use Rattle.std.specs.List.{enumerate_from}
use Rattle.site_rows.specs.RecordRows.{site_row}
use Rattle.site_rows.proofs.address_rows.rows_of_sites.Given as goal

-- the rows so far and those of the rest are all of them
abbrev pub invariant-loop-number : goal.invariant-loop-number
invariant-loop-number l = l.rows.items ++ map site_row (enumerate_from l.number (drop l.number l.sites)) ≡ map site_row (enumerate_from 0 l.sites)
