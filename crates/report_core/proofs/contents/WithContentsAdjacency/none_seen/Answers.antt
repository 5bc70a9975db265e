use Rattle.trace_core.specs.Chains.{sites_at}
use Rattle.trace_core.proofs.Visiting.{none_given_by}
use Rattle.report_core.proofs.contents.WithContentsAdjacency.none_seen.Goals as goal

pub returns : goal.returns
returns c q h = none_given_by (sites_at c.args.self.now.sites.now) c.new.result c.new.ensures q h
