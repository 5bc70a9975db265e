use Rattle.std.proofs.Common.{⊎_elim, arith}
use Rattle.trace_core.specs.Chains.{sites_at}
use Rattle.trace_core.proofs.Visiting.{as_many_sites}
use Rattle.gap_core.specs.LineEvents.{Holds, SiteDoes}
use Rattle.gap_core.proofs.Additions.{more_before, none_before}
use Rattle.gap_core.proofs.LineEventSteps.{all_sites, none_kept}
use Rattle.gap_core.proofs.event_places.places_of.Goals as goal

pub loop-at-init : goal.loop-at-init
loop-at-init c m = (
  λ h. absurd (none_kept c.args.kind c.new-index.result c.new-index.ensures.empty m h),
  λ h. ⊎_elim (λ none. absurd none) (λ some. absurd (none_before (SiteDoes c.args.kind (sites_at c.args.sites.now) c.args.pairs.now) m some)) h,
)

pub loop-at-preserved : goal.loop-at-preserved
loop-at-preserved c =
    more_before (SiteDoes c.args.kind (sites_at c.args.sites.now) c.args.pairs.now) c.loop-at.at (λ m. ⊥) (Holds c.args.kind c.loop-at.index) (Holds c.args.kind c.note_site.new.index) c.loop-at.invariant c.in_ok-note_site.ensures

pub returns : goal.returns
returns c = all_sites c.args.kind (sites_at c.args.sites.now) c.args.pairs.now c.loop-at.at c.loop-at.index (as_many_sites c.args.sites.now c.loop-at.at (omega (arith, c.loop-at-test.false))) c.loop-at.invariant
