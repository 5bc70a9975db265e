use Rattle.trace_core.proofs.SiteSetSteps.{bit_tells}
use Rattle.trace_core.proofs.site_sets.SiteSet.has.Goals as goal

pub returns : goal.returns
returns c = bit_tells c.self.inside.mask c.number.result c.args.self c.args.site c.number.ensures.value c.number.ensures.small c.self.view_is
