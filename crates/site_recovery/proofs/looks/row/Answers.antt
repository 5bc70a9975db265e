use Rattle.site_recovery.specs.Checking.{world_at}
use Rattle.site_recovery.proofs.Absent.{no_row}
use Rattle.site_recovery.proofs.looks.row.Goals as goal

pub returns-in-None : goal.returns-in-None
returns-in-None c = no_row (world_at c.args.sites.now) c.args.site c.in-None.ensures c.args.number
