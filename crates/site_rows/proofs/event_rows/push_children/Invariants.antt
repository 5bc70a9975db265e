use Rattle.std.proofs.Common.{◌≡◌, ◌++◌, All, map, drop, take}
use Rattle.std.specs.List.{enumerate_from}
use Rattle.site_rows.specs.RecordRows.{packed_row}
use Rattle.site_rows.specs.Texts.{IsItemText}
use Rattle.site_rows.proofs.event_rows.push_children.Given as goal

-- the rows so far and those of the rest are all of them, and the items so far are items
abbrev pub invariant-loop-place : goal.invariant-loop-place
invariant-loop-place l = record {
  rows : l.rows.items ++ map (packed_row l.event) (enumerate_from l.place (drop l.place l.children)) ≡ l.fn.rows.items ++ map (packed_row l.event) (enumerate_from 0 l.children);
  items : All IsItemText (take l.place l.children);
}
