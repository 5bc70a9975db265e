use Rattle.std.proofs.Common.{Some, sym, ap, ◌∙◌, arith}
use Rattle.std.specs.Borrow.{Bor}
use Rattle.std.proofs.lemmas.Result.{on_ok_weaker}
use Rattle.trace_core.specs.Chains.{sites_at}
use Rattle.trace_core.specs.Sites.{SiteEvents}
use Rattle.trace_core.proofs.Visiting.{as_many_sites, site_stands}
use Rattle.gap_core.proofs.WalkSteps.{none_packed, packed_noted}
use Rattle.gap_core.proofs.walks.note_packed.Goals as goal

pub returns-then-from-sites : goal.returns-then-from-sites
returns-then-from-sites c =
    let own = c.index-sites-from.result in
    let so = site_stands c.args.sites.now c.args.from own (omega (arith, c.if-from-sites.true)) ∙ ap (λ (r : Bor SiteEvents). Some r.now) (sym c.index-sites-from.is) in
    on_ok_weaker c.note_children.result (packed_noted (sites_at c.args.sites.now) c.args.from own.now c.args.item.now c.args.found.now c.note_children.new.found so) c.note_children.ensures

pub returns-else-from-sites : goal.returns-else-from-sites
returns-else-from-sites c =
    none_packed (sites_at c.args.sites.now) c.args.from c.args.item.now c.args.found.now (as_many_sites c.args.sites.now c.args.from (omega (arith, c.if-from-sites.false)))
