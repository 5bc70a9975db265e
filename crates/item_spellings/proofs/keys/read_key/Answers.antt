use Rattle.item_spellings.proofs.Words.{read_key_gives}
use Rattle.item_spellings.proofs.keys.read_key.Goals as goal

pub returns : goal.returns
returns c = read_key_gives c.args.text.now c.from_key.result c.from_key.ensures.found c.from_key.ensures.same
