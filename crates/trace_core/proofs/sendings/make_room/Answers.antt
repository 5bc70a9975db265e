use Rattle.std.proofs.Common.{ap, ◌∙◌}
use Rattle.trace_core.specs.Sendings.{set_at}
use Rattle.trace_core.specs.SiteSets.{has_site}
use Rattle.trace_core.proofs.SentSteps.{set_pushed}
use Rattle.trace_core.proofs.sendings.make_room.Goals as goal

pub loop-sites-preserved : goal.loop-sites-preserved
loop-sites-preserved c n t = ap (λ sets. has_site (set_at sets n) t) c.in_ok-push.ensures.items ∙ set_pushed c.loop-sites.sites.items c.new.result c.new.ensures n t ∙ c.loop-sites.invariant n t
