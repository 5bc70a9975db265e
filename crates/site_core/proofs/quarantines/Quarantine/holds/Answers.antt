use Rattle.std.proofs.Common.{sym}
use Rattle.site_core.proofs.Held.{none_held}
use Rattle.site_core.proofs.quarantines.Quarantine.holds.Goals as goal

pub returns-in-None : goal.returns-in-None
returns-in-None c = sym (none_held c.args.self.now c.args.recall c.args.item.now (sym c.in-None.ensures))
