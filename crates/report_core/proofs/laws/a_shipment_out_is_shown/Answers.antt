use Rattle.report_core.proofs.OutsideLaws.{outside_is_shown}
use Rattle.report_core.proofs.laws.a_shipment_out_is_shown.Goals as goal

pub returns : goal.returns
returns c = outside_is_shown
