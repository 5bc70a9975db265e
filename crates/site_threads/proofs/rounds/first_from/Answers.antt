use Rattle.site_threads.proofs.Placing.{next_is_least}
use Rattle.site_threads.proofs.rounds.first_from.Goals as goal

pub returns : goal.returns
returns c = next_is_least c.args.state.now.engagement c.args.to c.args.from c.first_to.result c.first_to.ensures
