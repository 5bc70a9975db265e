use Rattle.std.proofs.Common.{ap, ◌∙◌, subst}
use Rattle.trace_core.specs.Numbers.{numbered}
use Rattle.trace_core.specs.Sendings.{AreNewlySent}
use Rattle.trace_core.specs.Sites.{SiteEvents}
use Rattle.trace_core.proofs.captured.Captured.last_sent.Goals as goal

pub returns-clause-new : goal.returns-clause-new
returns-clause-new c before e is = subst (λ (s : SiteEvents). AreNewlySent (numbered s.events) before e c.last_sent.result.now) c.self.view_is
    (c.last_sent.ensures.new before e (ap (λ (s : SiteEvents). s.events) c.self.view_is ∙ is))
