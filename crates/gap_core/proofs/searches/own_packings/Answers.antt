use Rattle.std.proofs.Common.{Some, sym, ap, ◌∙◌, arith}
use Rattle.std.specs.Borrow.{Bor}
use Rattle.trace_core.specs.Chains.{sites_at}
use Rattle.trace_core.specs.Sites.{SiteEvents}
use Rattle.trace_core.proofs.Visiting.{as_many_sites, site_stands}
use Rattle.gap_core.specs.Sources.{IsOwnAt, Keeps}
use Rattle.gap_core.proofs.Additions.{more_before}
use Rattle.gap_core.proofs.SourceLists.{all_own, site_filled}
use Rattle.gap_core.proofs.searches.own_packings.Goals as goal

pub loop-at-preserved : goal.loop-at-preserved
loop-at-preserved c =
    let own = c.index-sites-at.result in
    let stands = site_stands c.args.sites.now c.loop-at.at own (omega (arith, c.loop-at-test.true)) ∙ ap (λ (r : Bor SiteEvents). Some r.now) (sym c.index-sites-at.is) in
    more_before (IsOwnAt (sites_at c.args.sites.now)) c.loop-at.at (λ m. ⊥) (Keeps c.loop-at.index) (Keeps c.note_own.new.index) c.loop-at.invariant
    (site_filled c.loop-at.index c.note_own.new.index (sites_at c.args.sites.now) c.loop-at.at own.now stands c.in_ok-note_own.ensures)

pub returns : goal.returns
returns c = all_own c.loop-at.index (sites_at c.args.sites.now) c.loop-at.at (as_many_sites c.args.sites.now c.loop-at.at (omega (arith, c.loop-at-test.false))) c.loop-at.invariant
