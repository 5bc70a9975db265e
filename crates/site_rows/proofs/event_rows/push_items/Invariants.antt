use Rattle.std.proofs.Common.{◌≡◌, ◌++◌, All, map, drop, take}
use Rattle.std.specs.List.{enumerate_from}
use Rattle.site_rows.specs.RecordRows.{part_row, part_rows}
use Rattle.site_rows.specs.Texts.{IsItemText}
use Rattle.site_rows.proofs.event_rows.push_items.Given as goal

-- the rows so far and those of the rest are all of them, and the items so far are items
abbrev pub invariant-loop-place : goal.invariant-loop-place
invariant-loop-place l = record {
  rows : l.rows.items ++ map (part_row l.event l.role) (enumerate_from l.place (drop l.place l.items)) ≡ l.fn.rows.items ++ part_rows l.event l.role l.items;
  items : All IsItemText (take l.place l.items);
}
