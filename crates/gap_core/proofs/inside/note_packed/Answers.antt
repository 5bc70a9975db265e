use Rattle.std.proofs.Common.{Bor}
use Rattle.trace_core.specs.Pairs.{Carries}
use Rattle.trace_core.specs.Sites.{SiteEvents}
use Rattle.gap_core.proofs.InsideSteps.{packed_by_some}
use Rattle.gap_core.proofs.Notings.{all_noted, one_more_noted}
use Rattle.gap_core.proofs.inside.note_packed.Goals as goal

pub loop-site-preserved : goal.loop-site-preserved
loop-site-preserved c =
    one_more_noted (λ (r : Bor SiteEvents). Carries r.now.events c.args.item.now) c.args.sites.now c.loop-site.site-index c.site-item.result c.loop-site-test.true c.site-item.is
    c.args.found.now c.loop-site.found c.note_children.new.found c.loop-site.invariant c.in_ok-note_children.ensures

pub returns : goal.returns
returns c =
    packed_by_some c.args.sites.now c.args.item.now c.args.found.now c.loop-site.found
    (all_noted (λ (r : Bor SiteEvents). Carries r.now.events c.args.item.now) c.args.sites.now c.loop-site.site-index c.loop-site-test.false c.args.found.now c.loop-site.found c.loop-site.invariant)
