use Rattle.trace_core.proofs.LookSteps.{all_unseen}
use Rattle.trace_core.proofs.spreads.SitePairsRelation.none_seen.Goals as goal

pub returns-clause-outputs : goal.returns-clause-outputs
returns-clause-outputs c bounded = all_unseen 0 c.args.self.now.site.now.events c.new.result c.new.ensures
