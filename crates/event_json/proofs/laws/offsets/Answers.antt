use Rattle.event_json.proofs.Offsets.{offsets_are_these}
use Rattle.event_json.proofs.laws.offsets.Goals as goal

pub returns : goal.returns
returns c = offsets_are_these
