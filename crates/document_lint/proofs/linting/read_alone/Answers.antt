use Rattle.std.proofs.Common.{sym, ◌∙◌}
use Rattle.document_lint.proofs.Alone.{event_alone, fault_alone, few_alone}
use Rattle.document_lint.proofs.linting.read_alone.Goals as goal

pub only_event-requires : goal.only_event-requires
only_event-requires c = few_alone _ _ _ (sym c.is_event.ensures ∙ c.if-is_event.true) c.in-Ok.ensures.gives

pub returns-in-Ok : goal.returns-in-Ok
returns-in-Ok c = event_alone _ _ _ _ (sym c.is_event.ensures ∙ c.if-is_event.true) c.in-Ok.ensures.gives c.only_event.ensures

pub returns-in-Err-Doc : goal.returns-in-Err-Doc
returns-in-Err-Doc c = fault_alone _ _ _ (sym c.is_event.ensures ∙ c.if-is_event.true) (rw c.in-Err-Doc.field-0-is at c.in-Err-Doc.ensures.gives)
