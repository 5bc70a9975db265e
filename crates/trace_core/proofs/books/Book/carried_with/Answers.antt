use Rattle.std.proofs.Common.{List, ℕ, sym, subst}
use Rattle.event_json.specs.Events.{Content}
use Rattle.trace_core.specs.Numbers.{AreNumbersOf, numbered}
use Rattle.trace_core.specs.PutIn.{children_in, HasPacked}
use Rattle.trace_core.proofs.HeldItems.{known_held}
use Rattle.trace_core.proofs.books.Book.carried_with.Goals as goal

pub returns : goal.returns
returns c = known_held c.args.self.now (children_in c.self.inside.index.packed) (subst (λ (es : List Content). HasPacked (children_in c.self.inside.index.packed) es) c.self.view_is c.self.invariant.packed)
    c.args.items.now c.deref.result.now (subst (λ (ns : List ℕ). AreNumbersOf (numbered c.args.self.now) c.args.items.now ns) (sym c.deref.ensures.value) c.in_ok-numbers.ensures)
    c.args.site c.new-found.result c.note_at.new.self c.follow.new.self c.new-found.ensures c.in_ok-note_at.ensures.ok c.in_ok-follow.ensures.ok
