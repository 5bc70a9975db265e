use Rattle.std.proofs.Common.{◌<◌, ℕ}
use mathlib.Core.Logic.{inl}
use Rattle.gap_core.specs.Shipments.{GoesAt}
use Rattle.gap_core.proofs.batches.read_sites.Given as goal

-- those of the events so far
abbrev pub invariant-loop-place : goal.invariant-loop-place
invariant-loop-place l = (k t : ℕ) → k < l.place → GoesAt l.site.events (inl t) k → t < 16
