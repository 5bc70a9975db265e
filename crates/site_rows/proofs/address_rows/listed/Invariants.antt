use Rattle.std.proofs.Common.{◌≡◌, ◌++◌, map}
use Rattle.site_rows.specs.RecordRows.{address_row}
use Rattle.site_rows.proofs.address_rows.listed.Given as goal

-- the rows so far and those of the rest are all of them
abbrev pub invariant-loop-text : goal.invariant-loop-text
invariant-loop-text l = l.rows.items ++ map address_row l.text-iterator ≡ map address_row l.addresses.entries
