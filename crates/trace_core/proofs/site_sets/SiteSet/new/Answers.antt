use Rattle.trace_core.proofs.SiteSetSteps.{none_has}
use Rattle.trace_core.proofs.site_sets.SiteSet.new.Goals as goal

pub returns : goal.returns
returns c = none_has
