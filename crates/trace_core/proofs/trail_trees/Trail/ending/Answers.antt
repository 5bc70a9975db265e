use Rattle.std.proofs.Common.{◌≡◌, ◌-◌, List, [], ◌∷◌, ◌++◌, drop, get_or, length, sym, ap, subst, ◌∙◌, arith}
use Rattle.trace_core.specs.declared.pairs.Pair.{Pair}
use Rattle.trace_core.specs.declared.steps.Step.{Step}
use Rattle.trace_core.specs.Trails.{IsAt, trail_at}
use Rattle.trace_core.proofs.TrailSteps.{one_at}
use Rattle.trace_core.proofs.TrailTrees.{ending_first, ending_later}
use Rattle.trace_core.proofs.trail_trees.Trail.ending.Goals.{then-self-ne0+in_ok-copy+in_ok-push, else-self-ne0}
use Rattle.trace_core.proofs.trail_trees.Trail.ending.Goals as goal

ending_of : List Pair → List Pair
ending_of pairs = drop (length pairs - 2) pairs

pub returns : goal.returns
unfolding ending_of
returns c =
    let steps = c.self.inside.steps.now in
    let last = c.self.inside.last in
    let s = c.index-self-self-2.result in
    let at : IsAt steps last s = (c.self.invariant.1, sym c.index-self-self-2.is) in
    let copy = c.in_ok-copy-2.field-0 in
    let same : copy ≡ s.pair = c.in_ok-copy-2.ensures ∙ ap (λ (x : Step). x.pair) at.1 in
    let view : trail_at steps last ≡ c.args.self.now = c.self.view_is in
    elim c.if-self-ne0.branch [
      | then-self-ne0+in_ok-copy+in_ok-push w ↦
          let t = w.index-self-before.result in
          let here = w.index-self-self.result in
          let one : s ≡ here = one_at steps last s here at (at.0, sym w.index-self-self.is) in
          let below = c.self.invariant.0 last s at w.if-self-ne0.true in
          let from : get_or steps s.from t ≡ t = ap (λ (x : Step). get_or steps x.from t) (one ∙ w.index-self-self.is) ∙ sym w.index-self-before.is in
          let before : c.if-self-ne0.pairs.items ≡ t.pair ∷ [] =
          ap (λ v. v.items) w.pairs-is ∙ w.in_ok-push.ensures.items ∙ ap (λ (ps : List Pair). ps ++ w.in_ok-copy.field-0 ∷ []) c.new-pairs.ensures.items
          ∙ ap (λ (p : Pair). p ∷ []) (w.in_ok-copy.ensures ∙ ap (λ (x : Step). x.pair) (sym w.index-self-before.is)) in
          c.in_ok-push-2.ensures.items ∙ ap (λ (ps : List Pair). ps ++ copy ∷ []) before ∙ ap (λ (p : Pair). t.pair ∷ p ∷ []) same
          ∙ sym (ap ending_of (sym view) ∙ ending_later steps last s t c.self.invariant.0 at w.if-self-ne0.true (omega (arith, below, at.0), from))
      | else-self-ne0 w ↦
          let first = w.if-self-ne0.false in
          c.in_ok-push-2.ensures.items ∙ ap (λ (ps : List Pair). ps ++ copy ∷ []) (ap (λ v. v.items) w.pairs-is ∙ c.new-pairs.ensures.items) ∙ ap (λ (p : Pair). p ∷ []) same
          ∙ sym (ap ending_of (sym view) ∙ ap (λ n. ending_of (trail_at steps n)) first ∙ ending_first steps s (subst (λ n. IsAt steps n s) first at))
    ]
