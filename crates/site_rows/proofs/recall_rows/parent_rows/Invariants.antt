use Rattle.std.proofs.Common.{◌≡◌, ◌++◌, map}
use Rattle.std.specs.FinMap.{entries}
use Rattle.site_rows.specs.RecordRows.{parent_row}
use Rattle.site_rows.proofs.recall_rows.parent_rows.Given as goal

-- the rows so far and those of the rest are all of them
abbrev pub invariant-loop-recall : goal.invariant-loop-recall
invariant-loop-recall l = l.rows.items ++ map parent_row l.recall-iterator ≡ map parent_row (entries l.state.engagement.parents)
