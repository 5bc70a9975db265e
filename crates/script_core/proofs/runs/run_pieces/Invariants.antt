use Rattle.std.proofs.Common.{◌*◌, ◌≤◌}
use Rattle.script_core.proofs.ReaderLemmas.{HasRead}
use Rattle.script_core.proofs.runs.run_pieces.Given as goal

-- the session has come as far as the reader
abbrev pub invariant-loop : goal.invariant-loop
invariant-loop g l =
    record {
      read : HasRead (g.R.Read.remaining l.initial.reader) (g.R.Read.remaining l.reader) l.session (g.W.Write.contents l.initial.writer) (g.W.Write.contents l.writer);
      lines : l.session.lines ≤ 8192 * l.counter;
      refused : l.session.refused ≤ l.session.lines;
    }
