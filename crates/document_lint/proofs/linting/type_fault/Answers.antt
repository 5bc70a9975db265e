use Rattle.std.proofs.Common.{sym, ◌∙◌}
use Rattle.document_lint.proofs.Alone.{no_object, no_type}
use Rattle.document_lint.proofs.linting.type_fault.Goals as goal

pub returns-then-is_object : goal.returns-then-is_object
returns-then-is_object c = λ sites. no_type sites _ c.requires (sym c.is_object.ensures ∙ c.if-is_object.true)

pub returns-else-is_object : goal.returns-else-is_object
returns-else-is_object c = λ sites. no_object sites _ (sym c.is_object.ensures ∙ c.if-is_object.false)
