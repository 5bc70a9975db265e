use Rattle.std.proofs.Common.{sym, ap}
use Rattle.trace_core.specs.Numbers.{names_of}
use Rattle.trace_core.specs.Places.{or_none}
use Rattle.trace_core.proofs.NumberLists.{number_stands, unnumbered}
use Rattle.trace_core.proofs.NamedLists.{no_places_of}
use Rattle.trace_core.proofs.items.Items.places_of.Goals as goal

pub returns-in-Some : goal.returns-in-Some
returns-in-Some c = c.places_at.ensures c.args.item.now (number_stands (names_of c.args.self.now) c.args.item.now c.in-Some.number (sym c.in-Some.ensures))

pub returns-in-None : goal.returns-in-None
returns-in-None c = ap or_none (sym (no_places_of c.args.self.now c.args.item.now (unnumbered (names_of c.args.self.now) c.args.item.now (sym c.in-None.ensures))))
