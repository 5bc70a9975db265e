use Rattle.std.proofs.Common.{Some, sym, ap, ◌∙◌, arith}
use Rattle.std.specs.Borrow.{Bor}
use Rattle.std.proofs.lemmas.Bool.{eqb-true, eqb-false}
use Rattle.trace_core.specs.Chains.{sites_at}
use Rattle.trace_core.specs.Sites.{SiteEvents}
use Rattle.trace_core.proofs.LookSteps.{taken_least}
use Rattle.trace_core.proofs.ReachSteps.{site_of_node, site_gains, unknown_gains, elsewhere_gains}
use Rattle.trace_core.proofs.Visiting.{site_stands}
use Rattle.trace_core.proofs.chains.visit_at.Goals as goal

pub returns-in_ok-visit_item-clause-gains : goal.returns-in_ok-visit_item-clause-gains
returns-in_ok-visit_item-clause-gains c p stands s at =
    site_gains (sites_at c.args.sites.now) c.args.number c.index-sites-number.result.now s (site_stands c.args.sites.now c.args.number c.index-sites-number.result (omega (arith, c.requires)) ∙ ap (λ (r : Bor SiteEvents). Some r.now) (sym c.index-sites-number.is)) at c.args.node.now.at p (site_of_node (sites_at c.args.sites.now) c.args.node.now p stands)
    c.in-Some.item c.args.seen.now c.visit_item.new.seen c.args.nodes.now c.visit_item.new.nodes (sym c.me.ensures ∙ eqb-true _ _ (sym c.eq.ensures ∙ c.if-eq.true)) (c.in-Some.ensures p stands s at) c.in_ok-visit_item.ensures.gains

pub returns-in_default-clause-gains : goal.returns-in_default-clause-gains
returns-in_default-clause-gains c p stands s at =
    unknown_gains (sites_at c.args.sites.now) c.args.number s s at at c.args.node.now.at p (site_of_node (sites_at c.args.sites.now) c.args.node.now p stands) c.args.seen.now c.args.nodes.now (c.in_default.ensures p stands s at)

pub returns-else-eq-clause-gains : goal.returns-else-eq-clause-gains
returns-else-eq-clause-gains c p stands s at =
    elsewhere_gains (sites_at c.args.sites.now) c.args.number c.index-sites-number.result.now s (site_stands c.args.sites.now c.args.number c.index-sites-number.result (omega (arith, c.requires)) ∙ ap (λ (r : Bor SiteEvents). Some r.now) (sym c.index-sites-number.is)) at c.args.node.now.at p (site_of_node (sites_at c.args.sites.now) c.args.node.now p stands)
    c.args.seen.now c.args.nodes.now (λ same. eqb-false _ _ (sym c.eq.ensures ∙ c.if-eq.false) (c.me.ensures ∙ same))

pub returns-in_ok-visit_item-clause-looks : goal.returns-in_ok-visit_item-clause-looks
returns-in_ok-visit_item-clause-looks c = taken_least c.args.number c.index-sites-number.result.now.events c.args.seen.now c.visit_item.new.seen c.args.looks.now c.visit_item.new.looks c.in_ok-visit_item.ensures.looks
