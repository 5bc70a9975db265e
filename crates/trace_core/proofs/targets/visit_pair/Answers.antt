use Rattle.std.proofs.Common.{Some, refl, sym, ap, ◌∙◌, arith}
use Rattle.std.specs.Borrow.{Bor}
use Rattle.std.proofs.lemmas.Bool.{eqb-true, eqb-false}
use Rattle.trace_core.specs.Chains.{sites_at}
use Rattle.trace_core.specs.Sites.{SiteEvents}
use Rattle.trace_core.proofs.ReachSteps.{site_gains, unknown_gains, elsewhere_gains, same_gains, known_there}
use Rattle.trace_core.proofs.Visiting.{site_stands}
use Rattle.trace_core.proofs.targets.visit_pair.Goals as goal

pub returns-in_ok-visit_item-clause-gains : goal.returns-in_ok-visit_item-clause-gains
returns-in_ok-visit_item-clause-gains c s at =
    let sites = sites_at c.args.sites.now in
    let own = c.index-sites-number.result.now in
    let stands = site_stands c.args.sites.now c.args.number c.index-sites-number.result (omega (arith, c.requires)) ∙ ap (λ (r : Bor SiteEvents). Some r.now) (sym c.index-sites-number.is) in
    same_gains sites c.args.number own s c.args.pair.now c.args.seen.now c.visit_item.new.seen c.args.nodes.now c.visit_item.new.nodes stands at
    (site_gains sites c.args.number own own stands stands c.args.pair.now.site c.args.pair.now refl c.in-Some.item c.args.seen.now c.visit_item.new.seen c.args.nodes.now c.visit_item.new.nodes
    (sym c.me.ensures ∙ eqb-true _ _ (sym c.eq.ensures ∙ c.if-eq.true)) (known_there _ c.args.pair.now.item c.book.result.now own c.in-Some.ensures c.book.ensures) c.in_ok-visit_item.ensures.gains)

pub returns-in_default-clause-gains : goal.returns-in_default-clause-gains
returns-in_default-clause-gains c s at =
    let sites = sites_at c.args.sites.now in
    let own = c.index-sites-number.result.now in
    let stands = site_stands c.args.sites.now c.args.number c.index-sites-number.result (omega (arith, c.requires)) ∙ ap (λ (r : Bor SiteEvents). Some r.now) (sym c.index-sites-number.is) in
    same_gains sites c.args.number own s c.args.pair.now c.args.seen.now c.args.seen.now c.args.nodes.now c.args.nodes.now stands at
    (unknown_gains sites c.args.number own own stands stands c.args.pair.now.site c.args.pair.now refl c.args.seen.now c.args.nodes.now (known_there _ c.args.pair.now.item c.book.result.now own c.in_default.ensures c.book.ensures))

pub returns-else-eq-clause-gains : goal.returns-else-eq-clause-gains
returns-else-eq-clause-gains c s at =
    let stands = site_stands c.args.sites.now c.args.number c.index-sites-number.result (omega (arith, c.requires)) ∙ ap (λ (r : Bor SiteEvents). Some r.now) (sym c.index-sites-number.is) in
    elsewhere_gains (sites_at c.args.sites.now) c.args.number c.index-sites-number.result.now s stands at c.args.pair.now.site c.args.pair.now refl c.args.seen.now c.args.nodes.now (λ same. eqb-false _ _ (sym c.eq.ensures ∙ c.if-eq.false) (c.me.ensures ∙ same))
