use Rattle.std.proofs.Common.{List, get_or, refl, sym, ap, ◌∙◌, arith}
use Rattle.trace_core.specs.declared.nodes.Node.{Node}
use Rattle.trace_core.proofs.BeyondSteps.{begins, goes_on, all_visited}
use Rattle.trace_core.proofs.beyond.nodes_beyond.Goals as goal

pub loop-place-init : goal.loop-place-init
loop-place-init c i at = begins c.args.site.now c.args.stop.now i c.args.seen.now c.new-nodes.result c.note.new.self (record { site = 0; item = c.args.number; at = c.me.result }) c.new-nodes.ensures
    (c.args.site.now, refl, at, sym c.me.ensures) c.in_ok-note.ensures

pub loop-place-preserved : goal.loop-place-preserved
loop-place-preserved c i at = goes_on c.args.site.now c.args.stop.now i c.args.seen.now c.loop-place.seen c.visit_beyond.new.seen c.loop-place.nodes c.visit_beyond.new.nodes c.loop-place.place
    c.index-as_slice-place.result (omega (arith, c.len.ensures, c.loop-place-test.true)) (c.index-as_slice-place.is ∙ ap (λ (ns : List Node). get_or ns c.loop-place.place c.index-as_slice-place.result) c.as_slice.ensures) (c.loop-place.invariant i at) c.in_ok-visit_beyond.ensures.gains c.in_ok-visit_beyond.ensures.new

pub returns : goal.returns
returns c i at = all_visited c.args.site.now c.args.stop.now i c.args.seen.now c.loop-place.seen c.loop-place.nodes c.loop-place.place (omega (arith, c.len.ensures, c.loop-place-test.false)) (c.loop-place.invariant i at)
