use Rattle.report_core.proofs.OutsideLaws.{one_outside_event}
use Rattle.report_core.proofs.laws.shipments_out_have_one_event.Goals as goal

pub returns : goal.returns
returns c = one_outside_event
