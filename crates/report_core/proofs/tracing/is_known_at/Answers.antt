use Rattle.std.proofs.Common.{subst, ◌≤◌, length}
use mathlib.Core.Bool.{false≢true}
use Rattle.site_recovery.specs.Checking.{world_at}
use Rattle.site_recovery.proofs.SitesInTurn.{past_end}
use Rattle.report_core.proofs.KnownItems.{none_known}
use Rattle.report_core.proofs.tracing.is_known_at.Goals as goal

pub returns-else-place-sites : goal.returns-else-place-sites
returns-else-place-sites c =
    let past = subst (λ n. length c.args.sites.now ≤ n) c.number-place.ensures.value c.if-place-sites.false in (
      λ no. absurd (false≢true no),
      λ known. absurd (none_known (world_at c.args.sites.now) c.args.site c.args.item.now (past_end c.args.sites.now c.args.site past) known),
    )
