use Rattle.std.proofs.Common.{◌≡◌, ◌++◌, All}
use Rattle.std.specs.FinMap.{entries}
use Rattle.std.specs.List.{flat_map}
use Rattle.frame_core.specs.Numbers.{Recall}
use Rattle.site_core.specs.ItemSets as set
use Rattle.site_core.specs.Quarantines.{Items}
use Rattle.site_core.proofs.OneAfterAnother.{AllBut}
use Rattle.site_rows.specs.RecordRows.{quarantine_rows}
use Rattle.site_rows.specs.Texts.{IsItemText}
use Rattle.site_rows.proofs.recall_rows.quarantine_rows.Given as goal

-- the rows so far and those of the rest are all of them, and what is held under the recalls before the rest are items
abbrev pub invariant-loop-recall : goal.invariant-loop-recall
invariant-loop-recall l = record {
  rows : l.rows.items ++ flat_map quarantine_rows l.recall-iterator ≡ flat_map quarantine_rows (entries l.quarantine);
  items : AllBut (λ (e : Recall × Items). All IsItemText (set.items e.1)) (entries l.quarantine) l.recall-iterator;
}
