use Rattle.std.proofs.Common.{◌+◌, ◌≤◌, length}
use Rattle.script_core.specs.Session.{GoesOn}
use Rattle.script_core.proofs.sessions.Session.feed.Given as goal

-- the session has gone on from the piece to what is left of it
abbrev pub invariant-loop-end : goal.invariant-loop-end
invariant-loop-end g l =
    record {
      goes : GoesOn l.fn.self l.piece l.self l.rest (g.W.Write.contents l.initial.writer) (g.W.Write.contents l.writer);
      lines : l.self.lines + length l.rest ≤ l.fn.self.lines + length l.piece;
      refused : l.self.refused ≤ l.self.lines;
    }

abbrev pub decreases-loop-end : goal.decreases-loop-end
decreases-loop-end g l = length l.rest
