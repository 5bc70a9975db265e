use Rattle.std.proofs.Common.{List, ℕ, [], ◌∷◌, ◌++◌, ap, ◌∙◌}
use Rattle.indexmap.specs.IndexMap.{insert_entry}
use Rattle.indexmap.proofs.CallerLemmas.{insert_entry-new}
use Rattle.trace_core.specs.Numbers.{Named, names_of, number_in}
use Rattle.trace_core.specs.PairTests.{same_item}
use Rattle.trace_core.proofs.NumberLists.{unnumbered}
use Rattle.trace_core.proofs.NamedLists.{not_found}
use Rattle.trace_core.proofs.items.Items.add.Goals as goal

pub returns-clause-ok : goal.returns-clause-ok
returns-clause-ok c =
    c.in_ok-insert.ensures.entries
    ∙ ap (λ (k : List ℕ). insert_entry same_item c.self.inside.items.entries k c.args.places) c.in_ok-copy.ensures
    ∙ insert_entry-new same_item c.self.inside.items c.args.item.now c.args.places
    (not_found c.self.inside.items.entries c.args.item.now (unnumbered (names_of c.self.inside.items.entries) c.args.item.now (ap (λ (xs : List Named). number_in (names_of xs) c.args.item.now) c.self.view_is ∙ c.requires.new)))
    ∙ ap (λ (xs : List Named). xs ++ (c.args.item.now, c.args.places) ∷ []) c.self.view_is
