use Rattle.std.proofs.Common.{take}
use Rattle.std.specs.Prelude.{T}
use Rattle.std.specs.FinMap.{is_sorted}
use Rattle.site_rows.specs.BadRows.{Match}
use Rattle.site_rows.proofs.reading_entries.entries_of.Given as goal

-- the rows so far match the entries so far, which ascend
abbrev pub invariant-loop-place : goal.invariant-loop-place
invariant-loop-place g l = record {
  match : Match (g.R.EntryRow.is l.sites) (take l.place l.rows) l.entries.entries;
  ascending : T (is_sorted g.K.Ord.cmp l.entries.entries);
}
