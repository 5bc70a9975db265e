use Rattle.std.proofs.Common.{◌≡◌, ◌++◌, drop, string_bytes}
use Rattle.std.specs.List.{flat_map}
use Rattle.document_lint.specs.Lines.{finding_text, lint_text}
use Rattle.document_lint.proofs.findings.Lint.text.Given as goal

-- the lines so far and those of the rest are all of them
abbrev pub invariant-loop-finding : goal.invariant-loop-finding
invariant-loop-finding l = string_bytes l.text ++ flat_map (finding_text l.source) (drop l.finding-index l.finding-items) ≡ lint_text l.source l.self
