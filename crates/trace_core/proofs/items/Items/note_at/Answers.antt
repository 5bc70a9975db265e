use Rattle.std.proofs.Common.{List, ap, ◌∙◌}
use Rattle.std.proofs.lemmas.Result.{on_ok_weaker, on_err_weaker}
use Rattle.trace_core.specs.Numbers.{Named, changed_at}
use Rattle.trace_core.specs.Places.{with_last}
use Rattle.trace_core.proofs.NamedLists.{value_changed, value_kept, changed_past}
use Rattle.trace_core.proofs.items.Items.note_at.Goals.{in-Some, in-None}
use Rattle.trace_core.proofs.items.Items.note_at.Goals as goal

pub returns-clause-ok : goal.returns-clause-ok
returns-clause-ok c = elim c.match-get_index_mut.branch [
  | in-Some w ↦ rw w.result-is (rw w.self-inside-is (on_ok_weaker w.note.result
      (λ is. value_changed (with_last c.args.place) c.args.number c.self.inside.items.entries w.in-Some.places.now w.note.new.self w.in-Some.ensures.value is
      ∙ ap (λ (xs : List Named). changed_at (with_last c.args.place) c.args.number xs) c.self.view_is)
      w.note.ensures.ok))
  | in-None w ↦ rw w.result-is (rw w.self-inside-is (changed_past (with_last c.args.place) c.args.number c.self.inside.items.entries w.in-None.ensures.value
      ∙ ap (λ (xs : List Named). changed_at (with_last c.args.place) c.args.number xs) c.self.view_is))
]

pub returns-clause-err : goal.returns-clause-err
returns-clause-err c = elim c.match-get_index_mut.branch [
  | in-Some w ↦ rw w.result-is (rw w.self-inside-is (on_err_weaker w.note.result
      (λ is. value_kept c.args.number c.self.inside.items.entries w.in-Some.places.now w.note.new.self w.in-Some.ensures.value is ∙ c.self.view_is)
      w.note.ensures.err))
  | in-None w ↦ rw w.result-is tt
]
