use Rattle.site_store.proofs.CallsLeave.{calls_leave, calls_keep}
use Rattle.site_store.proofs.laws.calls_leave_what_is_the_sites_own.Goals as goal

pub returns-clause-leaves : goal.returns-clause-leaves
returns-clause-leaves g c = calls_leave {g = g.D.Disk} g.met.D.Disk.seen_may_stay

pub returns-clause-records : goal.returns-clause-records
returns-clause-records g c = calls_keep {g = g.D.Disk}
