use Rattle.event_json.proofs.Skipped.{skipped_counted}
use Rattle.event_json.proofs.laws.skipped_are_counted.Goals as goal

pub returns : goal.returns
returns c = skipped_counted
