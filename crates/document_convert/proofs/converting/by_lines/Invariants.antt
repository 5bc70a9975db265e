use Rattle.std.proofs.Common.{◌+◌, drop, map}
use Rattle.document_convert.proofs.ConvertLemmas.{AreDone}
use Rattle.document_convert.proofs.converting.by_lines.Given as goal

-- the lines so far are done
abbrev pub invariant-loop-place : goal.invariant-loop-place
invariant-loop-place l = AreDone l.fn.ways l.sites (map (λ x. x.now) l.lines) (map (λ x. x.now) (drop l.place l.lines)) (l.place + 1) l.converted
