use Rattle.frame_core.proofs.Maps.{no_entries}
use Rattle.frame_core.proofs.Placing.{none_listed}
use Rattle.frame_core.proofs.places.Places.new.Goals as goal

pub returns : goal.returns
returns c = none_listed _ (no_entries c.new.result c.new.ensures.empty)
