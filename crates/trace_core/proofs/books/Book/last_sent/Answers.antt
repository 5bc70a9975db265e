use Rattle.std.proofs.Common.{List, sym, ◌∙◌, subst}
use Rattle.event_json.specs.Events.{Content}
use Rattle.trace_core.specs.Indexes.{HasPlaces}
use Rattle.trace_core.specs.Numbers.{numbered}
use Rattle.trace_core.specs.Sendings.{AreNewlySent}
use Rattle.trace_core.proofs.books.Book.last_sent.Goals as goal

pub returns-clause-new : goal.returns-clause-new
returns-clause-new c before e is = subst (λ (es : List Content). AreNewlySent (numbered es) before e c.last_sent.result.now) (sym is)
    (c.last_sent.ensures.new before e (subst (λ (es : List Content). HasPlaces c.self.inside.index es) (c.self.view_is ∙ is) c.self.invariant))

pub returns-clause-none : goal.returns-clause-none
returns-clause-none c is = c.last_sent.ensures.none (subst (λ (es : List Content). HasPlaces c.self.inside.index es) (c.self.view_is ∙ is) c.self.invariant)
