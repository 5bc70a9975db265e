use Rattle.std.proofs.Common.{◌≡◌, map, take}
use Rattle.site_tables.specs.Known.{column_as}
use Rattle.site_tables.proofs.known_parts.are_columns.Given as goal

-- so far all columns are those that are declared
abbrev pub invariant-loop-at : goal.invariant-loop-at
invariant-loop-at l = take l.at l.columns ≡ map column_as (take l.at l.declared)
