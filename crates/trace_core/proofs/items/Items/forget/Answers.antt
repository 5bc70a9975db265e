use Rattle.std.proofs.Common.{sym, ◌∙◌}
use Rattle.trace_core.specs.Numbers.{names_of}
use Rattle.trace_core.specs.Places.{without_last}
use Rattle.trace_core.proofs.NumberLists.{unnumbered}
use Rattle.trace_core.proofs.NamedLists.{changed_here, changed_none}
use Rattle.trace_core.proofs.items.Items.forget.Goals as goal

pub returns-in-Some : goal.returns-in-Some
returns-in-Some c = c.forget_at.ensures ∙ changed_here (without_last c.args.place) c.args.item.now c.in-Some.number c.args.self.now (sym c.in-Some.ensures)

pub returns-in_default : goal.returns-in_default
returns-in_default c = sym (changed_none (without_last c.args.place) c.args.item.now c.args.self.now (unnumbered (names_of c.args.self.now) c.args.item.now (sym c.in_default.ensures)))
