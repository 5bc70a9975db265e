use Rattle.std.proofs.Common.{◌∙◌, Some, sym, ap, subst, arith}
use Rattle.std.specs.Borrow.{Bor}
use Rattle.std.specs.List.{Contains}
use Rattle.trace_core.specs.Chains.{sites_at}
use Rattle.trace_core.specs.Sites.{SiteEvents}
use Rattle.trace_core.proofs.Visiting.{site_stands}
use Rattle.gap_core.specs.Batches.{AreAllBatches}
use Rattle.gap_core.specs.Missed.{IsMissedBy}
use Rattle.gap_core.proofs.Additions.{all_added, one_more}
use Rattle.gap_core.proofs.MissedSteps.{site_missed}
use Rattle.gap_core.proofs.missed.note_site.Goals as goal

pub loop-places-preserved : goal.loop-places-preserved
loop-places-preserved c =
    one_more (IsMissedBy (sites_at c.args.sites.now) c.args.own.now c.args.known.now c.args.at) c.as_slice-places-items.result.now c.loop-places.places-index (Contains c.args.missed.now.items) (Contains c.loop-places.missed.items) (Contains c.note_batch.new.missed.items)
    c.places-item.result c.loop-places-test.true c.places-item.is c.loop-places.invariant c.in_ok-note_batch.ensures

pub returns : goal.returns
returns c =
    let sites = sites_at c.args.sites.now in
    let own = c.index-sites-at.result in
    let so = site_stands c.args.sites.now c.args.at own (omega (arith, c.requires.at)) ∙ ap (λ (r : Bor SiteEvents). Some r.now) (sym c.index-sites-at.is) in
    site_missed sites c.args.own.now c.args.known.now c.requires.own c.requires.known c.args.at own.now so c.as_slice-places-items.result.now c.args.missed.now.items c.loop-places.missed.items
    (subst (AreAllBatches own.now) (sym c.as_slice-places-items.ensures.value) c.in_ok-batches.ensures)
    (all_added (IsMissedBy sites c.args.own.now c.args.known.now c.args.at) c.as_slice-places-items.result.now c.loop-places.places-index (Contains c.args.missed.now.items) (Contains c.loop-places.missed.items) c.loop-places-test.false c.loop-places.invariant)
