use Rattle.event_json.proofs.ListLimits.{items_limited, destinations_limited}
use Rattle.event_json.proofs.laws.lists_are_limited.Goals as goal

pub returns : goal.returns
returns c = (items_limited, destinations_limited)
