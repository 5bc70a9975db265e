use Rattle.std.proofs.Common.{List, sym, subst, ◌∙◌}
use Rattle.event_json.specs.Events.{Content}
use Rattle.trace_core.specs.Numbers.{HasMembers}
use Rattle.trace_core.proofs.KeptMembers.{outs_kept, no_outs_kept}
use Rattle.trace_core.proofs.books.Book.kept_outs.Goals as goal

pub returns-in-Some : goal.returns-in-Some
returns-in-Some c = c.as_slice.ensures ∙ outs_kept c.args.self.now c.self.inside.index.members.items (subst (λ (es : List Content). HasMembers es c.self.inside.index.members.items) c.self.view_is c.self.invariant.items.members) c.args.place c.in-Some.members.now (sym c.in-Some.ensures)

pub returns-in-None : goal.returns-in-None
returns-in-None c = no_outs_kept c.args.self.now c.self.inside.index.members.items (subst (λ (es : List Content). HasMembers es c.self.inside.index.members.items) c.self.view_is c.self.invariant.items.members) c.args.place (sym c.in-None.ensures)
