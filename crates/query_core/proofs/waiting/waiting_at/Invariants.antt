use Rattle.std.proofs.Common.{◌≡◌, ◌+◌}
use Rattle.frame_core.specs.Identifiers.{same_recall}
use Rattle.frame_core.proofs.Deficits.{passing}
use Rattle.query_core.specs.Recalls.{waiting_count}
use Rattle.query_core.proofs.waiting.waiting_at.Given as goal

-- the count so far and that of the rows that are left make all
abbrev pub invariant-loop-row : goal.invariant-loop-row
invariant-loop-row l = l.count + passing (λ row. same_recall row.recall l.recall) l.row-iterator ≡ waiting_count l.recall l.state
