use Rattle.std.proofs.Common.{Some, get_or, sym, ap, ◌∙◌, arith}
use Rattle.trace_core.specs.declared.steps.Step.{Step}
use Rattle.trace_core.specs.Trails.{before_last, trail_at}
use Rattle.trace_core.proofs.TrailSteps.{element}
use Rattle.trace_core.proofs.TrailTrees.{before_first, before_later}
use Rattle.trace_core.proofs.trail_trees.Trail.before_last.Goals as goal

pub returns-then-self-eq0 : goal.returns-then-self-eq0
returns-then-self-eq0 c =
    let steps = c.self.inside.steps.now in
    let first = c.if-self-eq0.true in
    let (s, below, is) = element steps 0 (omega (arith, first, c.self.invariant.1)) in
    sym (ap before_last (sym c.self.view_is) ∙ ap (λ n. before_last (trail_at steps n)) first ∙ before_first steps s (below, is))

pub returns-else-self-eq0 : goal.returns-else-self-eq0
returns-else-self-eq0 c =
    let steps = c.self.inside.steps.now in
    let last = c.self.inside.last in
    let s = c.index-self-self.result in
    let t = c.index-self-before.result in
    let at = sym c.index-self-self.is in
    let below = c.self.invariant.0 last s (c.self.invariant.1, at) c.if-self-eq0.false in
    let from = ap (λ (x : Step). get_or steps x.from t) (sym at) ∙ sym c.index-self-before.is in
    ap (λ (x : Step). Some x.pair) (sym c.index-self-before.is)
    ∙ sym (ap before_last (sym c.self.view_is) ∙ before_later steps last s t c.self.invariant.0 (c.self.invariant.1, at) c.if-self-eq0.false (omega (arith, below, c.self.invariant.1), from))
