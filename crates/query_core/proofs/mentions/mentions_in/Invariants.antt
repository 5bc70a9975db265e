use Rattle.std.proofs.Common.{take}
use Rattle.query_core.specs.Mentions.{AreCounted}
use Rattle.query_core.proofs.mentions.mentions_in.Given as goal

-- the events so far are counted
abbrev pub invariant-loop-place : goal.invariant-loop-place
invariant-loop-place l = AreCounted (take l.place l.captured.events) l.place l.counts
