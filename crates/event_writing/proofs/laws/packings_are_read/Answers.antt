use Rattle.event_writing.proofs.ReadBack.{packings_are_read}
use Rattle.event_writing.proofs.laws.packings_are_read.Goals as goal

pub returns : goal.returns
returns c = packings_are_read
