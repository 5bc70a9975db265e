use Rattle.std.specs.Io.KnownBytes.{Keeps}
use Rattle.recall_text.proofs.writing.write_some.Given as goal

-- nothing was written yet
abbrev pub invariant-loop : goal.invariant-loop
invariant-loop g l = Keeps (g.W.Write.contents l.initial.writer) (g.W.Write.contents l.writer)
