use Rattle.std.proofs.Common.{Some, sym, ap, ◌∙◌, arith}
use Rattle.std.specs.Borrow.{Bor}
use Rattle.std.specs.List.{Contains}
use Rattle.trace_core.specs.Chains.{sites_at}
use Rattle.trace_core.specs.Sites.{SiteEvents}
use Rattle.trace_core.proofs.Visiting.{as_many_sites, site_stands}
use Rattle.gap_core.specs.GapPacks.{IsPackFrom}
use Rattle.gap_core.proofs.Additions.{more_before}
use Rattle.gap_core.proofs.PackSteps.{all_packs_from, site_packs}
use Rattle.gap_core.proofs.packs.note_all.Goals as goal

pub loop-from-preserved : goal.loop-from-preserved
loop-from-preserved c =
    let own = c.index-sites-from.result in
    let stands = site_stands c.args.sites.now c.loop-from.from own (omega (arith, c.loop-from-test.true)) ∙ ap (λ (r : Bor SiteEvents). Some r.now) (sym c.index-sites-from.is) in
    more_before (IsPackFrom (sites_at c.args.sites.now) c.args.known.now c.args.wanted.now c.args.site c.args.at) c.loop-from.from (Contains c.args.packs.now.items) (Contains c.loop-from.packs.items) (Contains c.note_site.new.packs.items) c.loop-from.invariant
    (site_packs (sites_at c.args.sites.now) c.args.known.now c.args.wanted.now c.args.site c.args.at c.loop-from.from own.now c.loop-from.packs.items c.note_site.new.packs.items stands c.in_ok-note_site.ensures)

pub returns : goal.returns
returns c =
    all_packs_from (sites_at c.args.sites.now) c.args.known.now c.args.wanted.now c.args.site c.args.at c.loop-from.from c.args.packs.now.items c.loop-from.packs.items
    (as_many_sites c.args.sites.now c.loop-from.from (omega (arith, c.loop-from-test.false))) c.loop-from.invariant
