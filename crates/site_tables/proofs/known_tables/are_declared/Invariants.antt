use Rattle.std.proofs.Common.{◌≡◌, map, take}
use Rattle.site_tables.specs.Known.{table_as}
use Rattle.site_tables.proofs.known_tables.are_declared.Given as goal

-- so far all are those that are declared
abbrev pub invariant-loop-at : goal.invariant-loop-at
invariant-loop-at l = take l.at l.tables ≡ map table_as (take l.at l.declarations)
