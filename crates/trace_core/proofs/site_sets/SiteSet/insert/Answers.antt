use Rattle.trace_core.proofs.SiteSetSteps.{bit_set}
use Rattle.trace_core.proofs.site_sets.SiteSet.insert.Goals as goal

pub returns : goal.returns
returns c = bit_set c.self.inside.mask c.number.result c.args.self.now c.args.site c.number.ensures.value c.number.ensures.small c.self.view_is
