use Rattle.event_json.proofs.Ordered.{type_first, in_order}
use Rattle.event_json.proofs.laws.faults_come_in_order.Goals as goal

pub returns : goal.returns
returns c = record { first = type_first; order = in_order }
