use Rattle.site_recovery.specs.Checking.{world_at}
use Rattle.site_recovery.proofs.Absent.{none_seen}
use Rattle.site_recovery.proofs.looks.seen.Goals as goal

pub returns-in-None : goal.returns-in-None
returns-in-None c = none_seen (world_at c.args.sites.now) c.args.site c.in-None.ensures c.args.message
