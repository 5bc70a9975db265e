use Rattle.std.proofs.Common.{◌∙◌, Some, sym, ap, arith}
use Rattle.std.specs.Borrow.{Bor}
use Rattle.trace_core.specs.Chains.{sites_at}
use Rattle.trace_core.specs.Sites.{SiteEvents}
use Rattle.trace_core.proofs.Visiting.{site_stands}
use Rattle.gap_core.proofs.UntoldSteps.{site_untold}
use Rattle.gap_core.proofs.untold.note_site.Goals as goal

pub returns : goal.returns
returns c =
    let own = c.index-sites-at.result in
    let so = site_stands c.args.sites.now c.args.at own (omega (arith, c.requires.at)) ∙ ap (λ (r : Bor SiteEvents). Some r.now) (sym c.index-sites-at.is) in
    site_untold (sites_at c.args.sites.now) c.args.own.now c.args.known.now c.requires.own c.requires.known c.args.reached.now c.args.at own.now so c.in_ok-outside.outside c.in_ok-note_places.ensures.ordered c.in_ok-outside.ensures
    c.args.found.now.items c.note_places.new.found.items c.in_ok-note_places.ensures.added
