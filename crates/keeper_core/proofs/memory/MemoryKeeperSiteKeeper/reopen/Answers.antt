use Rattle.std.proofs.Common.{refl, ap, Some}
use Rattle.keeper_core.proofs.memory.MemoryKeeperSiteKeeper.reopen.Goals as goal

pub returns-clause-opened : goal.returns-clause-opened
returns-clause-opened c _ = (c.args.self.state, refl, ap (λ k. Some k.state) c.keeper.view_is)
