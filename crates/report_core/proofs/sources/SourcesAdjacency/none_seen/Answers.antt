use Rattle.report_core.proofs.UnseenAdded.{none_seen_gives}
use Rattle.report_core.proofs.sources.SourcesAdjacency.none_seen.Goals as goal

pub returns : goal.returns
returns c q h = none_seen_gives c.args.self.now c.new.result c.new.ensures q h
