use Rattle.std.proofs.Common.{is_some, ap, arith}
use Rattle.site_recovery.specs.Checking.{world_at}
use Rattle.site_recovery.proofs.Absent.{none_seen}
use Rattle.site_recovery.proofs.SitesInTurn.{past_end}
use Rattle.query_core.proofs.waiting.is_seen.Goals as goal

pub returns-else-place-sites : goal.returns-else-place-sites
returns-else-place-sites c =
    ap is_some (none_seen (world_at c.args.sites.now) c.args.site (past_end c.args.sites.now c.args.site (omega (arith, c.if-place-sites.false, c.number-place.ensures.value))) c.args.message)
