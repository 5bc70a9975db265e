use Rattle.event_json.proofs.Aimless.{aimless_seen}
use Rattle.event_json.proofs.laws.aimless_are_seen.Goals as goal

pub returns : goal.returns
returns c = aimless_seen
