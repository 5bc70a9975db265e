use Rattle.std.proofs.Common.{take}
use Rattle.site_rows.specs.BadRows.{Match, IsHeldEntry}
use Rattle.site_rows.specs.HeldItems.{all_held}
use Rattle.site_rows.proofs.reading_held.quarantine_of.Given as goal

-- the rows so far match what is held so far
abbrev pub invariant-loop-place : goal.invariant-loop-place
invariant-loop-place l = Match (IsHeldEntry l.sites) (take l.place l.rows) (all_held l.quarantine)
