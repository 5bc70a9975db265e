use Rattle.std.proofs.Common.{◌∙◌, Some, sym, ap, subst, arith}
use Rattle.std.specs.Borrow.{Bor}
use Rattle.std.specs.List.{Contains}
use Rattle.trace_core.specs.Chains.{sites_at}
use Rattle.trace_core.specs.Sites.{SiteEvents}
use Rattle.trace_core.proofs.Visiting.{site_stands}
use Rattle.gap_core.specs.Batches.{AreAllBatches}
use Rattle.gap_core.specs.GapItems.{IsGapBy}
use Rattle.gap_core.proofs.Additions.{all_added, one_more}
use Rattle.gap_core.proofs.GapSteps.{site_gaps}
use Rattle.gap_core.proofs.site_gaps.note_site_gaps.Goals as goal

pub loop-places-preserved : goal.loop-places-preserved
loop-places-preserved c =
    one_more (IsGapBy (sites_at c.args.sites.now) c.args.own.now c.args.known.now c.args.at) c.as_slice-places-items.result.now c.loop-places.places-index (Contains c.args.gaps.now.items) (Contains c.loop-places.gaps.items) (Contains c.note_batch_gaps.new.gaps.items)
    c.places-item.result c.loop-places-test.true c.places-item.is c.loop-places.invariant c.in_ok-note_batch_gaps.ensures

pub returns : goal.returns
returns c =
    let sites = sites_at c.args.sites.now in
    let own = c.index-sites-at.result in
    let so = site_stands c.args.sites.now c.args.at own (omega (arith, c.requires.at)) ∙ ap (λ (r : Bor SiteEvents). Some r.now) (sym c.index-sites-at.is) in
    site_gaps sites c.args.own.now c.args.known.now c.requires.own c.requires.known c.args.at own.now so c.as_slice-places-items.result.now c.args.gaps.now.items c.loop-places.gaps.items
    (subst (AreAllBatches own.now) (sym c.as_slice-places-items.ensures.value) c.in_ok-batches.ensures)
    (all_added (IsGapBy sites c.args.own.now c.args.known.now c.args.at) c.as_slice-places-items.result.now c.loop-places.places-index (Contains c.args.gaps.now.items) (Contains c.loop-places.gaps.items) c.loop-places-test.false c.loop-places.invariant)
