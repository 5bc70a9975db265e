use Rattle.keeper_core.proofs.Failing.{armed_fails}
use Rattle.keeper_core.proofs.memory.MemoryKeeperSiteKeeper.apply.Goals as goal

pub returns-clause-open : goal.returns-clause-open
returns-clause-open c r shown = armed_fails r c.args.input c.in-Some.keep c.fail.result c.args.self.now c.fail.new.self shown c.fail.ensures
