use Rattle.site_recovery.specs.Checking.{world_at}
use Rattle.site_recovery.proofs.Absent.{no_item}
use Rattle.site_recovery.proofs.looks.is_held.Goals as goal

pub returns-in-None : goal.returns-in-None
returns-in-None c = no_item (world_at c.args.sites.now) c.args.site c.in-None.ensures c.args.recall c.args.item.now
