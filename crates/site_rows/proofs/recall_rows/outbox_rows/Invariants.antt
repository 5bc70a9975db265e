use Rattle.std.proofs.Common.{◌≡◌, ◌++◌, ℕ, map}
use Rattle.std.specs.FinMap.{entries}
use Rattle.frame_core.specs.declared.rows.Row.{Row}
use Rattle.site_core.proofs.OneAfterAnother.{AllBut}
use Rattle.site_rows.specs.RecordRows.{outbox_row}
use Rattle.site_rows.specs.Texts.{IsItemText}
use Rattle.site_rows.proofs.recall_rows.outbox_rows.Given as goal

-- the rows so far and those of the rest are all of them, and the messages before the rest are about items
abbrev pub invariant-loop-number : goal.invariant-loop-number
invariant-loop-number l = record {
  rows : l.rows.items ++ map outbox_row l.number-iterator ≡ map outbox_row (entries l.state.engagement.outbox);
  items : AllBut (λ (e : ℕ × Row). IsItemText e.1.item) (entries l.state.engagement.outbox) l.number-iterator;
}
