use Rattle.std.proofs.Common.{◌∙◌, Some, sym, ap, arith}
use mathlib.Core.Bool.{false≢true}
use Rattle.std.specs.Borrow.{Bor}
use Rattle.std.proofs.lemmas.Result.{on_ok_weaker}
use Rattle.trace_core.specs.Chains.{sites_at}
use Rattle.trace_core.specs.Sites.{SiteEvents}
use Rattle.trace_core.proofs.Visiting.{site_stands}
use Rattle.gap_core.proofs.MissedSteps.{item_missed, told_item}
use Rattle.gap_core.proofs.missed.note_item.Goals as goal

pub returns-then-has : goal.returns-then-has
returns-then-has c = told_item (sites_at c.args.sites.now) c.args.at c.args.told.now c.args.item.now c.args.missed.now.items (c.has.ensures.0 c.if-has.true)

pub returns : goal.returns
returns c =
    let own = c.index-sites-at.result in
    let so = site_stands c.args.sites.now c.args.at own (omega (arith, c.requires)) ∙ ap (λ (r : Bor SiteEvents). Some r.now) (sym c.index-sites-at.is) in
    on_ok_weaker c.push_pair.result
    (item_missed (sites_at c.args.sites.now) c.args.at c.args.told.now c.args.item.now own.now c.me.result c.args.missed.now.items c.push_pair.new.missed.items so c.me.ensures
    (λ told. false≢true (sym c.if-has.false ∙ c.has.ensures.1 told)))
    c.push_pair.ensures
