use Rattle.trace_core.proofs.PairLaws.{related_at_its_site}
use Rattle.trace_core.proofs.laws.related_pairs_are_of_their_site.Goals as goal

pub returns : goal.returns
returns c = related_at_its_site
