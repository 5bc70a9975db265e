use Rattle.std.proofs.Common.{rules}
use Rattle.event_json.specs.EventReading.{transformation_event}
use Rattle.event_json.proofs.event_checks.transformation_event.Goals as goal

pub returns-in_err-body-clause-value : goal.returns-in_err-body-clause-value
unfolding transformation_event
returns-in_err-body-clause-value c = λ sites. let failed = c.in_err-body.ensures.value sites in search (rules, failed)
