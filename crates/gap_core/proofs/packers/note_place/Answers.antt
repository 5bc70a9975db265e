use Rattle.std.proofs.Common.{Some, sym, ap, ◌∙◌, arith}
use Rattle.std.specs.Borrow.{Bor}
use Rattle.std.proofs.lemmas.Result.{on_ok_weaker}
use Rattle.trace_core.specs.Chains.{sites_at}
use Rattle.trace_core.specs.Sites.{SiteEvents}
use Rattle.trace_core.proofs.Visiting.{as_many_sites, site_stands}
use Rattle.gap_core.proofs.PackerSteps.{no_place_from, place_from}
use Rattle.gap_core.proofs.packers.note_place.Goals as goal

pub returns-then-from-sites : goal.returns-then-from-sites
returns-then-from-sites c =
    let own = c.index-sites-from.result in
    let so = site_stands c.args.sites.now c.args.from own (omega (arith, c.if-from-sites.true)) ∙ ap (λ (r : Bor SiteEvents). Some r.now) (sym c.index-sites-from.is) in
    on_ok_weaker c.note_site.result (place_from c.args.packers.now c.note_site.new.packers (sites_at c.args.sites.now) c.args.from own.now c.args.container.now so) c.note_site.ensures

pub returns-else-from-sites : goal.returns-else-from-sites
returns-else-from-sites c =
    no_place_from c.args.packers.now (sites_at c.args.sites.now) c.args.from c.args.container.now (as_many_sites c.args.sites.now c.args.from (omega (arith, c.if-from-sites.false)))
