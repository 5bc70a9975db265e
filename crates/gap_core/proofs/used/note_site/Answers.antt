use Rattle.std.proofs.Common.{◌∙◌, Some, sym, ap, arith}
use Rattle.std.specs.Borrow.{Bor}
use Rattle.std.specs.List.{Contains}
use Rattle.trace_core.specs.Chains.{sites_at}
use Rattle.trace_core.specs.Sites.{SiteEvents}
use Rattle.trace_core.proofs.Visiting.{site_stands}
use Rattle.gap_core.specs.Used.{IsUsedFirst}
use Rattle.gap_core.proofs.Additions.{more_before}
use Rattle.gap_core.proofs.UsedSteps.{site_used}
use Rattle.gap_core.proofs.used.note_site.Goals as goal

pub loop-place-preserved : goal.loop-place-preserved
loop-place-preserved c =
    more_before (IsUsedFirst (sites_at c.args.sites.now) c.args.at) c.loop-place.place (Contains c.args.used.now.items) (Contains c.loop-place.used.items) (Contains c.note_event.new.used.items)
    c.loop-place.invariant c.in_ok-note_event.ensures

pub returns : goal.returns
returns c =
    let own = c.index-sites-at.result in
    let so = site_stands c.args.sites.now c.args.at own (omega (arith, c.requires.at)) ∙ ap (λ (r : Bor SiteEvents). Some r.now) (sym c.index-sites-at.is) in
    site_used (sites_at c.args.sites.now) c.args.known.now c.requires.known c.args.at own.now so c.loop-place.place c.args.used.now.items c.loop-place.used.items
    (omega (arith, c.loop-place-test.false, c.len-place-end.ensures)) c.loop-place.invariant
