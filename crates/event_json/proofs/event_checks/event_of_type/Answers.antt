use Rattle.std.proofs.Common.{rules}
use Rattle.event_json.specs.EventReading.{event_of_type}
use Rattle.event_json.proofs.event_checks.event_of_type.Goals as goal

pub returns-in_err-transformation_event-in-Transformation-clause-value :
    goal.returns-in_err-transformation_event-in-Transformation-clause-value
unfolding event_of_type
returns-in_err-transformation_event-in-Transformation-clause-value c = λ sites.
    let failed = c.in_err-transformation_event-in-Transformation.ensures.value sites in search (rules, failed)

pub returns-in_err-aggregation_event-in-Aggregation-clause-value :
    goal.returns-in_err-aggregation_event-in-Aggregation-clause-value
unfolding event_of_type
returns-in_err-aggregation_event-in-Aggregation-clause-value c = λ sites.
    let failed = c.in_err-aggregation_event-in-Aggregation.ensures.value sites in search (rules, failed)
