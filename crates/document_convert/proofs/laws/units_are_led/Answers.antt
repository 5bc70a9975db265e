use Rattle.document_convert.proofs.UnitLaws.{units_are_led}
use Rattle.document_convert.proofs.laws.units_are_led.Goals as goal

pub returns : goal.returns
returns c = units_are_led
