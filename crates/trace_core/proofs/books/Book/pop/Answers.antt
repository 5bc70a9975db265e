use Rattle.std.proofs.Common.{List, subst, arith}
use Rattle.event_json.specs.Events.{Content}
use Rattle.trace_core.specs.Indexes.{HasPlaces}
use Rattle.trace_core.proofs.books.Book.pop.Goals as goal

pub invariant_of-self : goal.invariant_of-self
invariant_of-self c = c.forget.ensures c.pop.new.self.items (omega (arith, c.len.ensures)) (subst (λ (es : List Content). HasPlaces c.self.inside.index es) c.in-Some.ensures.items c.self.invariant)
