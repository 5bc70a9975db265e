use Rattle.std.proofs.Common.{◌≡◌, ◌++◌, ℕ, map}
use Rattle.std.specs.FinMap.{entries}
use Rattle.scholten_core.specs.declared.own_recalls.Own.{Own}
use Rattle.site_core.proofs.OneAfterAnother.{AllBut}
use Rattle.site_rows.specs.RecordRows.{recall_row}
use Rattle.site_rows.specs.Texts.{IsItemText}
use Rattle.site_rows.proofs.recall_rows.recall_rows.Given as goal

-- the rows so far and those of the rest are all of them, and the recalls before the rest began with items
abbrev pub invariant-loop-number : goal.invariant-loop-number
invariant-loop-number l = record {
  rows : l.rows.items ++ map recall_row l.number-iterator ≡ map recall_row (entries l.state.engagement.own);
  items : AllBut (λ (e : ℕ × Own). IsItemText e.1.root) (entries l.state.engagement.own) l.number-iterator;
}
