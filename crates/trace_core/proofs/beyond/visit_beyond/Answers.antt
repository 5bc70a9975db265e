use Rattle.std.proofs.Common.{inl, sym, ◌∙◌}
use mathlib.Core.Bool.{false≢true}
use Rattle.std.proofs.lemmas.Result.{on_ok_weaker}
use Rattle.trace_core.proofs.BeyondSteps.{told_apart, told_same, nothing_elsewhere, nothing_at_stop, beyond_gained}
use Rattle.trace_core.proofs.SpreadSteps.{node_gains, its_item}
use Rattle.trace_core.proofs.beyond.visit_beyond.Goals as goal

pub returns-then-ne-clause-gains : goal.returns-then-ne-clause-gains
returns-then-ne-clause-gains c p stands = nothing_elsewhere c.args.site.now c.args.stop.now c.args.node.now c.args.seen.now c.args.nodes.now p stands c.me.result (told_apart _ _ (sym c.ne.ensures ∙ c.if-ne.true)) c.me.ensures

pub returns-then-is_stop-clause-gains : goal.returns-then-is_stop-clause-gains
returns-then-is_stop-clause-gains c p stands = nothing_at_stop c.args.site.now c.args.stop.now c.args.node.now c.args.seen.now c.args.nodes.now p stands (λ i at. (c.is_stop.ensures i at).0 c.if-is_stop.true)

pub returns-clause-gains : goal.returns-clause-gains
returns-clause-gains c = on_ok_weaker c.visit_item.result
    (λ gains p stands. beyond_gained c.args.site.now c.args.stop.now c.args.node.now c.args.seen.now c.args.nodes.now p stands c.visit_item.new.seen c.visit_item.new.nodes
    (λ i at stops. false≢true (sym c.if-is_stop.false ∙ (c.is_stop.ensures i at).1 stops))
    (node_gains c.args.site.now c.args.node.now c.me.result c.args.seen.now c.visit_item.new.seen c.args.nodes.now c.visit_item.new.nodes (told_same _ _ (sym c.ne.ensures ∙ c.if-ne.false)) c.me.ensures gains p stands))
    c.visit_item.ensures.gains

pub returns-then-ne-clause-new : goal.returns-then-ne-clause-new
returns-then-ne-clause-new c p stands first there = inl there

pub returns-then-is_stop-clause-new : goal.returns-then-is_stop-clause-new
returns-then-is_stop-clause-new c p stands first there = inl there

pub returns-clause-new : goal.returns-clause-new
returns-clause-new c = on_ok_weaker c.visit_item.result (λ new p stands. new p.item (its_item c.args.site.now c.args.node.now p stands)) c.visit_item.ensures.new
