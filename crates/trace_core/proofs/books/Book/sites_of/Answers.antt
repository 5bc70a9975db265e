use Rattle.std.proofs.Common.{sym}
use Rattle.trace_core.specs.Numbers.{numbered}
use Rattle.trace_core.proofs.NumberLists.{number_stands}
use Rattle.trace_core.proofs.SendingSteps.{none_sent}
use Rattle.trace_core.proofs.books.Book.sites_of.Goals as goal

pub returns-in-Some : goal.returns-in-Some
returns-in-Some c = c.sites_at.ensures c.args.item.now (number_stands (numbered c.args.self.now) c.args.item.now c.in-Some.number (sym c.in-Some.ensures))

pub returns-in-None : goal.returns-in-None
returns-in-None c = none_sent c.args.self.now c.args.item.now c.in-None.ensures c.new.result c.new.ensures
