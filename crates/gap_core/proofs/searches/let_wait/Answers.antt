use Rattle.gap_core.proofs.TellingSteps.{pushed_waits}
use Rattle.gap_core.proofs.searches.let_wait.Goals as goal

pub returns-clause-waits : goal.returns-clause-waits
returns-clause-waits c = pushed_waits c.args.place c.args.turn c.args.waiting.now.items c.push.new.self.items c.requires c.in_ok-push.ensures.items
