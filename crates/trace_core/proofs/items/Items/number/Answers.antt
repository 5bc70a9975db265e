use Rattle.std.proofs.Common.{List, ap, ◌∙◌}
use Rattle.trace_core.specs.Numbers.{Named, names_of, number_in}
use Rattle.trace_core.proofs.NamedLists.{number_at}
use Rattle.trace_core.proofs.items.Items.number.Goals as goal

pub returns : goal.returns
returns c = c.get_index_of.ensures.index ∙ number_at c.args.item.now (names_of c.self.inside.items.entries) ∙ ap (λ (xs : List Named). number_in (names_of xs) c.args.item.now) c.self.view_is
