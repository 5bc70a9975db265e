use Rattle.item_spellings.proofs.Steps.{is_behind}
use Rattle.item_spellings.proofs.elements.stripped.Goals as goal

pub returns : goal.returns
returns c = is_behind c.args.front.now c.args.text.now c.strip_prefix.result c.strip_prefix.ensures.cases
