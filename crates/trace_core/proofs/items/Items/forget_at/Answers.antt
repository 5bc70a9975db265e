use Rattle.std.proofs.Common.{List, ap, ◌∙◌}
use Rattle.trace_core.specs.Numbers.{Named, changed_at}
use Rattle.trace_core.specs.Places.{without_last}
use Rattle.trace_core.proofs.NamedLists.{value_changed, changed_past}
use Rattle.trace_core.proofs.items.Items.forget_at.Goals.{in-Some, in_default}
use Rattle.trace_core.proofs.items.Items.forget_at.Goals as goal

pub returns : goal.returns
returns c = elim c.match-get_index_mut.branch [
  | in-Some w ↦ rw w.self-inside-is (value_changed (without_last c.args.place) c.args.number c.self.inside.items.entries w.in-Some.places.now w.forget.new.self w.in-Some.ensures.value w.forget.ensures
      ∙ ap (λ (xs : List Named). changed_at (without_last c.args.place) c.args.number xs) c.self.view_is)
  | in_default w ↦ rw w.self-inside-is (changed_past (without_last c.args.place) c.args.number c.self.inside.items.entries w.in_default.ensures.value
      ∙ ap (λ (xs : List Named). changed_at (without_last c.args.place) c.args.number xs) c.self.view_is)
]
