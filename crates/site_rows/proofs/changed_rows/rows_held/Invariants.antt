use Rattle.std.proofs.Common.{◌≡◌, map, take}
use Rattle.site_rows.specs.RecordRows.{quarantine_row}
use Rattle.site_rows.proofs.changed_rows.rows_held.Given as goal

-- the rows of the items so far
abbrev pub invariant-loop-item : goal.invariant-loop-item
invariant-loop-item l = l.rows.items ≡ map (quarantine_row l.fn.recall) (take l.item-index l.items)
