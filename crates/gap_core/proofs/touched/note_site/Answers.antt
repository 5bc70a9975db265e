use Rattle.std.proofs.Common.{◌∙◌, Some, sym, ap, arith}
use Rattle.std.specs.Borrow.{Bor}
use Rattle.std.proofs.lemmas.Result.{on_ok_weaker}
use Rattle.trace_core.specs.Chains.{sites_at}
use Rattle.trace_core.specs.Sites.{SiteEvents}
use Rattle.trace_core.proofs.Visiting.{site_stands}
use Rattle.gap_core.proofs.TouchedSteps.{none_touched, site_touched}
use Rattle.gap_core.proofs.touched.note_site.Goals as goal

pub returns-then-len-eq0 : goal.returns-then-len-eq0
returns-then-len-eq0 c =
    let own = c.index-sites-at.result in
    let so = site_stands c.args.sites.now c.args.at own (omega (arith, c.requires.at)) ∙ ap (λ (r : Bor SiteEvents). Some r.now) (sym c.index-sites-at.is) in
    none_touched (sites_at c.args.sites.now) c.args.known.now c.requires.known c.args.at own.now so c.args.missed.now c.in_ok-wanted.wanted c.args.gaps.now c.args.touched.now.items c.in_ok-wanted.ensures (omega (arith, c.if-len-eq0.true, c.len.ensures))

pub returns : goal.returns
returns c =
    let own = c.index-sites-at.result in
    let so = site_stands c.args.sites.now c.args.at own (omega (arith, c.requires.at)) ∙ ap (λ (r : Bor SiteEvents). Some r.now) (sym c.index-sites-at.is) in
    on_ok_weaker c.note_gaps.result
    (site_touched (sites_at c.args.sites.now) c.args.known.now c.requires.known c.args.at own.now so c.args.missed.now c.in_ok-wanted.wanted c.args.gaps.now c.args.touched.now.items c.note_gaps.new.touched.items c.in_ok-wanted.ensures)
    c.note_gaps.ensures
