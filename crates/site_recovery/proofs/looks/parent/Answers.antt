use Rattle.site_recovery.specs.Checking.{world_at}
use Rattle.site_recovery.proofs.Absent.{no_parent}
use Rattle.site_recovery.proofs.looks.parent.Goals as goal

pub returns-in-None : goal.returns-in-None
returns-in-None c = no_parent (world_at c.args.sites.now) c.args.site c.in-None.ensures c.args.recall
