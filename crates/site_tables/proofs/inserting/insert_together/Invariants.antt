use Rattle.std.proofs.Common.{◌≡◌, ◌+◌, min, take}
use Rattle.std.specs.List.{flat_map}
use Rattle.sqlite.specs.Values.{bound}
use Rattle.site_tables.proofs.inserting.insert_together.Given as goal

-- the values of the elements so far are there, and each was counted
abbrev pub invariant-loop-row : goal.invariant-loop-row
invariant-loop-row g l =
    (bound l.values.items ≡ flat_map g.T.TableRow.shown (take l.row-index l.rows)) × (l.written ≡ min 18_446_744_073_709_551_615 (l.fn.written + l.row-index))
