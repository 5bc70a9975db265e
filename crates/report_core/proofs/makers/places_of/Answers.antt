use Rattle.std.proofs.Common.{Some, sym, ap, ◌∙◌, arith}
use Rattle.std.specs.Borrow.{Bor}
use Rattle.trace_core.specs.Chains.{sites_at}
use Rattle.trace_core.specs.Sites.{SiteEvents}
use Rattle.trace_core.proofs.Visiting.{site_stands, as_many_sites}
use Rattle.report_core.specs.Sources.{NotesOf}
use Rattle.report_core.proofs.PlacesKept.{no_sites, site_noted, sites_noted}
use Rattle.report_core.proofs.makers.places_of.Goals as goal

pub loop-number-init : goal.loop-number-init
loop-number-init c = no_sites (NotesOf c.args.wanted c.args.noting) (sites_at c.args.sites.now) c.new-index.result c.new-index.ensures.empty

pub loop-number-preserved : goal.loop-number-preserved
loop-number-preserved c =
    let own = c.index-sites-number.result in
    let stands = site_stands c.args.sites.now c.loop-number.number own (omega (arith, c.loop-number-test.true)) ∙ ap (λ (r : Bor SiteEvents). Some r.now) (sym c.index-sites-number.is) in
    site_noted (NotesOf c.args.wanted c.args.noting) (sites_at c.args.sites.now) c.loop-number.index c.note_site.new.index c.loop-number.number own.now stands c.loop-number.invariant c.in_ok-note_site.ensures

pub returns : goal.returns
returns c = sites_noted (NotesOf c.args.wanted c.args.noting) (sites_at c.args.sites.now) c.loop-number.index c.loop-number.number (as_many_sites c.args.sites.now c.loop-number.number (omega (arith, c.loop-number-test.false))) c.loop-number.invariant
