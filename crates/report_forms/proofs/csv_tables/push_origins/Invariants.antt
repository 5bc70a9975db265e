use Rattle.std.proofs.Common.{◌≡◌, ◌++◌, map, string_bytes, take}
use Rattle.report_forms.specs.Csv.{cell_lines, origin_row}
use Rattle.report_forms.proofs.csv_tables.push_origins.Given as goal

-- the rows so far
abbrev pub invariant-loop-origin : goal.invariant-loop-origin
invariant-loop-origin l = string_bytes l.text ≡ string_bytes l.fn.text ++ cell_lines l.guard (map (origin_row l.sites l.recall l.account.told) (take l.origin-index l.account.origins))
