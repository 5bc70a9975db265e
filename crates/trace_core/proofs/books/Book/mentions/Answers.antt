use Rattle.std.proofs.Common.{ap, is_some, ◌∙◌}
use Rattle.trace_core.specs.Numbers.{numbered}
use Rattle.trace_core.proofs.NumberLists.{known_number, numbered_named}
use Rattle.trace_core.proofs.books.Book.mentions.Goals as goal

pub returns : goal.returns
returns c = c.is_some.ensures ∙ ap is_some c.number_of.ensures ∙ known_number (numbered c.args.self.now) c.args.item.now ∙ numbered_named c.args.self.now c.args.item.now
