use Rattle.std.proofs.Common.{◌≡◌, ◌++◌, map, string_bytes, take}
use Rattle.report_forms.specs.Csv.{cell_lines, kind_of, part_row}
use Rattle.report_forms.proofs.csv_tables.push_parts.Given as goal

-- the rows so far
abbrev pub invariant-loop-place : goal.invariant-loop-place
invariant-loop-place l =
    string_bytes l.text ≡ string_bytes l.fn.text ++ cell_lines l.guard (map (part_row l.sites l.recall (kind_of l.account.title) l.account.told) (take l.place l.account.parts))
