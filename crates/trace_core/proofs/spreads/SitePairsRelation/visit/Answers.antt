use Rattle.std.proofs.Common.{sym, ◌∙◌}
use Rattle.std.proofs.lemmas.Bool.{eqb-true, eqb-false}
use Rattle.trace_core.proofs.LookSteps.{taken_least, taken_most, taken_all}
use Rattle.trace_core.proofs.SpreadSteps.{node_gains, node_elsewhere, node_seen, nothing_seen_elsewhere, stays_seen_from}
use Rattle.trace_core.proofs.spreads.SitePairsRelation.visit.Goals as goal

pub returns-in_ok-visit_item-clause-visited : goal.returns-in_ok-visit_item-clause-visited
returns-in_ok-visit_item-clause-visited c = node_gains c.args.self.now.site.now c.args.node.now _ c.args.seen.now c.visit_item.new.seen c.args.nodes.now c.visit_item.new.nodes (eqb-true _ _ (sym c.eq.ensures ∙ c.if-eq.true)) c.me.ensures c.in_ok-visit_item.ensures.gains

pub returns-else-eq-clause-visited : goal.returns-else-eq-clause-visited
returns-else-eq-clause-visited c = node_elsewhere c.args.self.now.site.now c.args.node.now _ c.args.seen.now c.args.nodes.now (λ same. eqb-false _ _ (sym c.eq.ensures ∙ c.if-eq.false) same) c.me.ensures

pub returns-in_ok-visit_item-clause-seen : goal.returns-in_ok-visit_item-clause-seen
returns-in_ok-visit_item-clause-seen c = node_seen c.args.self.now.site.now c.args.node.now c.visit_item.new.seen c.in_ok-visit_item.ensures.takers

pub returns-in_ok-visit_item-clause-stays : goal.returns-in_ok-visit_item-clause-stays
returns-in_ok-visit_item-clause-stays c = stays_seen_from c.args.self.now.site.now c.args.seen.now c.visit_item.new.seen c.in_ok-visit_item.ensures.stays

pub returns-else-eq-clause-seen : goal.returns-else-eq-clause-seen
returns-else-eq-clause-seen c = nothing_seen_elsewhere c.args.self.now.site.now c.args.node.now _ c.args.seen.now (λ same. eqb-false _ _ (sym c.eq.ensures ∙ c.if-eq.false) same) c.me.ensures

pub returns-in_ok-visit_item-clause-least : goal.returns-in_ok-visit_item-clause-least
returns-in_ok-visit_item-clause-least c = taken_least 0 c.args.self.now.site.now.events c.args.seen.now c.visit_item.new.seen c.args.looks.now c.visit_item.new.looks c.in_ok-visit_item.ensures.looks

pub returns-in_ok-visit_item-clause-most : goal.returns-in_ok-visit_item-clause-most
returns-in_ok-visit_item-clause-most c tt = taken_most 0 c.args.self.now.site.now.events c.args.seen.now c.visit_item.new.seen c.args.looks.now c.visit_item.new.looks c.in_ok-visit_item.ensures.looks

pub returns-in_ok-visit_item-clause-all : goal.returns-in_ok-visit_item-clause-all
returns-in_ok-visit_item-clause-all c tt = taken_all 0 c.args.self.now.site.now.events c.args.seen.now c.visit_item.new.seen c.args.looks.now c.visit_item.new.looks c.in_ok-visit_item.ensures.looks
