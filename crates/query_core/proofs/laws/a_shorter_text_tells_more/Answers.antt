use Rattle.query_core.proofs.OneAnswer.{shorter_texts_tell_more}
use Rattle.query_core.proofs.laws.a_shorter_text_tells_more.Goals as goal

pub returns : goal.returns
returns c = shorter_texts_tell_more
