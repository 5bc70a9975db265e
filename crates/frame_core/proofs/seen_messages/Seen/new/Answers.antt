use Rattle.frame_core.proofs.Maps.{no_entries}
use Rattle.frame_core.proofs.seen_messages.Seen.new.Goals as goal

pub returns : goal.returns
returns c = no_entries c.new.result c.new.ensures.empty
