use Rattle.std.proofs.Common.{◌≡◌, ◌++◌}
use Rattle.document_lint.specs.Findings.{at_number}
use Rattle.document_lint.proofs.linting.push_at.Given as goal

-- what was found so far
abbrev pub invariant-loop-what : goal.invariant-loop-what
invariant-loop-what l = l.findings.items ≡ l.fn.findings.items ++ at_number l.number l.yielded
