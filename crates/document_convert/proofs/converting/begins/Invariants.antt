use Rattle.std.proofs.Common.{◌≡◌, drop, map}
use Rattle.document_convert.specs.Texts.{begins}
use Rattle.document_convert.proofs.converting.begins.Given as goal

-- the rest begins as all lines do
abbrev pub invariant-loop-line : goal.invariant-loop-line
invariant-loop-line l = begins (map (λ x. x.now) (drop l.line-index l.lines)) ≡ begins (map (λ x. x.now) l.lines)
