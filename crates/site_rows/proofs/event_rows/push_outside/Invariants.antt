use Rattle.std.proofs.Common.{◌≡◌, ◌++◌, All, map, drop, take}
use Rattle.std.specs.List.{enumerate_from}
use Rattle.site_rows.specs.RecordRows.{part_row, part_rows}
use Rattle.site_rows.specs.Texts.{IsPlainText}
use Rattle.site_rows.proofs.event_rows.push_outside.Given as goal

-- the rows so far and those of the rest are all of them, and the texts so far are plain
abbrev pub invariant-loop-place : goal.invariant-loop-place
invariant-loop-place l = record {
  rows : l.rows.items ++ map (part_row l.event 2) (enumerate_from l.place (drop l.place l.outside)) ≡ l.fn.rows.items ++ part_rows l.event 2 l.outside;
  plain : All IsPlainText (take l.place l.outside);
}
