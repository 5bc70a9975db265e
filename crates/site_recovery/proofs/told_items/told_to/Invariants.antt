use Rattle.std.specs.FinMap.{entries}
use Rattle.site_recovery.proofs.Gathering.{Gathered}
use Rattle.site_recovery.proofs.ToldItems.{IsHeldIn, RowTells}
use Rattle.site_recovery.proofs.told_items.told_to.Given as goal

-- what the rows so far announce
abbrev pub invariant-loop-row : goal.invariant-loop-row
invariant-loop-row l = Gathered (RowTells l.dest) (entries l.state.engagement.outbox) l.row-iterator (IsHeldIn l.initial.told) (IsHeldIn l.told)
