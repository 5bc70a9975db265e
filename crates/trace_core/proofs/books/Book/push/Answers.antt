use Rattle.std.proofs.Common.{List, subst, sym, arith}
use Rattle.event_json.specs.Events.{Content}
use Rattle.trace_core.specs.Indexes.{HasPlaces}
use Rattle.trace_core.proofs.books.Book.push.Goals as goal

pub invariant_of-self-2 : goal.invariant_of-self-2
invariant_of-self-2 c = subst (λ (es : List Content). HasPlaces c.note.new.self es) (sym c.push_reserved.ensures.items)
    (c.in_ok-note.ensures.ok c.reserve.new.self.items (omega (arith, c.len.ensures)) (subst (λ (es : List Content). HasPlaces c.self.inside.index es) (sym c.in_ok-reserve.ensures.items) c.self.invariant))
