use Rattle.item_spellings.proofs.Written.{reads_what_is_written}
use Rattle.item_spellings.proofs.laws.reading_is_writing.Goals as goal

pub returns : goal.returns
returns c = reads_what_is_written
