use Rattle.std.proofs.Common.{List, ◌↔◌, subst, inl, inr, ⊎_elim}
use mathlib.Core.Logic.{◌⊎◌}
use Rattle.std.specs.List.{Contains}
use Rattle.std.proofs.lemmas.Map.Lookups.{CmpEqualImpliesEq}
use Rattle.std.proofs.lemmas.Result.{IfOk-weaker}
use Rattle.trace_core.specs.declared.nodes.Node.{Node}
use Rattle.trace_core.specs.declared.pairs.Pair.{Pair}
use Rattle.trace_core.specs.Chains.{Related, sites_at}
use Rattle.trace_core.specs.Nodes.{Stands, Had, ReachedFromNodes}
use Rattle.trace_core.specs.Pairs.{pair_cmp}
use Rattle.trace_core.specs.Relations.{ReachedFrom}
use Rattle.trace_core.proofs.FoundSteps.{iff_then}
use Rattle.trace_core.proofs.PairOrder.{pairs_exact}
use Rattle.trace_core.proofs.ReachFrom.{reach_from_exact}
use Rattle.trace_core.proofs.chains.reach_from.Goals as goal

-- the starts stand for the roots
pub closure-requires : goal.closure-requires
closure-requires c n there = let (p, root, stands) = (c.in_ok-starts.ensures n).0 (subst (λ (ns : List Node). Contains ns n) c.deref.ensures.value there) in (p, stands)

pub returns-clause-reached : goal.returns-clause-reached
returns-clause-reached c =
    let sites = sites_at c.args.sites.now in
    let starts = c.in_ok-starts.starts.items in
    let roots = c.args.roots.now in
    let reached : (q : Pair) → Had (Stands sites) c.in_ok-nodes.nodes q ↔ ReachedFromNodes (Stands sites) (Related sites) starts q =
    subst (λ (ns : List Node). (q : Pair) → Had (Stands sites) c.in_ok-nodes.nodes q ↔ ReachedFromNodes (Stands sites) (Related sites) ns q) c.deref.ensures.value c.in_ok-nodes.ensures.reached in
    let all : (p : Pair) → Contains c.push_roots.new.pairs.items p ↔ (Had (Stands sites) c.in_ok-nodes.nodes p ⊎ Contains roots p) = λ p. (
      λ h. ⊎_elim (λ before. inl ((c.in_ok-pairs.ensures p).0 before)) (λ root. inr root) ((c.in_ok-push_roots.ensures p).0 h),
      λ h. (c.in_ok-push_roots.ensures p).1 (⊎_elim (λ had. inl ((c.in_ok-pairs.ensures p).1 had)) (λ root. inr root) h),
    ) in
    IfOk-weaker c.in_order.result
    (λ ordered. CmpEqualImpliesEq pair_cmp → (p : Pair) → Contains ordered.items p ↔ Contains c.push_roots.new.pairs.items p)
    (λ ordered. (p : Pair) → Contains ordered.items p ↔ ReachedFrom (Related sites) roots p)
    (λ ordered same p. iff_then (same pairs_exact p) (reach_from_exact sites roots starts c.in_ok-nodes.nodes c.push_roots.new.pairs.items c.in_ok-starts.ensures reached all p))
    c.in_order.ensures.same
