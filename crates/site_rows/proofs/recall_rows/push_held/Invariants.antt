use Rattle.std.proofs.Common.{◌≡◌, ◌++◌, map}
use Rattle.site_core.specs.ItemSets as set
use Rattle.site_core.proofs.OneAfterAnother.{AllBut}
use Rattle.site_rows.specs.RecordRows.{quarantine_row}
use Rattle.site_rows.specs.Texts.{IsItemText}
use Rattle.site_rows.proofs.recall_rows.push_held.Given as goal

-- the rows so far and those of the rest are all of them, and the items before the rest are items
abbrev pub invariant-loop-item : goal.invariant-loop-item
invariant-loop-item l = record {
  rows : l.rows.items ++ map (quarantine_row l.fn.recall) l.item-iterator ≡ l.fn.rows.items ++ map (quarantine_row l.fn.recall) (set.items l.items);
  items : AllBut IsItemText (set.items l.items) l.item-iterator;
}
