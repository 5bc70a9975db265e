use Rattle.std.proofs.Common.{List, ◌∷◌, sym, ap, ◌∙◌, arith}
use Rattle.trace_core.specs.declared.pairs.Pair.{Pair}
use Rattle.trace_core.specs.declared.steps.Step.{Step}
use Rattle.trace_core.proofs.TrailTrees.{rest_begins, rest_goes}
use Rattle.trace_core.proofs.trail_trees.pairs_up_to.Goals as goal

pub loop-place-init : goal.loop-place-init
loop-place-init c =
    let at = sym c.index-steps-place.is in
    rest_begins c.args.steps.now c.args.last c.index-steps-place.result _ _ c.requires.back (c.requires.within, at) (c.in_ok-copy.ensures ∙ ap (λ (x : Step). x.pair) at) (c.in_ok-push_front.ensures.items ∙ ap (λ (ps : List Pair). c.in_ok-copy.field-0 ∷ ps) c.new-pairs.ensures.items)

pub loop-place-preserved : goal.loop-place-preserved
loop-place-preserved c =
    let s = c.index-steps-place-in-loop-place.result in
    let at = sym c.index-steps-place-in-loop-place.is in
    let from = ap (λ (x : Step). x.from) at in
    let below = c.requires.back c.loop-place.place s (c.loop-place.invariant.within, at) c.loop-place-test.true in
    rest_goes c.args.steps.now c.args.last c.loop-place.place _ s c.index-steps-place-in-loop-place-2.result _ _ _ c.requires.back c.loop-place.invariant c.loop-place-test.true
    (c.loop-place.invariant.within, at) from (omega (arith, below, from, c.loop-place.invariant.within), sym c.index-steps-place-in-loop-place-2.is) (c.in_ok-copy-2.ensures ∙ ap (λ (x : Step). x.pair) (sym c.index-steps-place-in-loop-place-2.is)) c.in_ok-push_front-2.ensures.items
