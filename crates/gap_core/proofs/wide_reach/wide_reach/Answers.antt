use Rattle.std.proofs.Common.{◌≡◌, ◌↔◌, ◌∙◌, List, true, [], ◌∷◌, ◌++◌, ap, sym, subst}
use mathlib.Core.Bool.{false≢true}
use Rattle.std.specs.BTreeMap.{is_at}
use Rattle.std.specs.List.{Contains, list_any}
use Rattle.std.proofs.lemmas.Map.Views.{btree_set_contains_iff}
use Rattle.std.proofs.lemmas.Result.{IfOk-weaker}
use Rattle.trace_core.specs.declared.pairs.Pair.{Pair}
use Rattle.trace_core.specs.Chains.{sites_at}
use Rattle.trace_core.specs.Gaps.{WideRelated}
use Rattle.trace_core.specs.Pairs.{pair_cmp}
use Rattle.trace_core.specs.Relations.{Reaches}
use Rattle.trace_core.proofs.PairOrder.{pairs_exact, pairs_total}
use Rattle.gap_core.proofs.WideSearch.{fewer_left, stands_first, turned}
use Rattle.gap_core.proofs.wide_reach.wide_reach.Goals as goal

pub loop-more-init : goal.loop-more-init
loop-more-init c =
    stands_first (sites_at c.args.sites.now) c.args.root.now c.in_ok-copy.field-0 c.new-reached.result c.in_ok-steps.steps.items c.push.new.self.items
    (λ p found. false≢true (subst (λ ks. list_any (is_at (pair_cmp p)) ks ≡ true) c.new-reached.ensures.empty found))
    c.in_ok-steps.ensures c.in_ok-copy.ensures
    (◌∙◌ {A = List Pair} c.in_ok-push.ensures.items (ap (λ (ps : List Pair). ps ++ c.in_ok-copy.field-0 ∷ []) c.new-roots.ensures.items))

pub loop-more-preserved : goal.loop-more-preserved
loop-more-preserved c =
    turned (sites_at c.args.sites.now) c.args.root.now c.loop-more.reached c.loop-more.steps.items c.loop-more.roots.items c.loop-more.more c.loop-more.invariant c.go_on.new.reached
    c.go_on.new.steps.items c.go_on.new.roots.items c.in_ok-more.more c.in_ok-more.ensures

pub loop-more-smaller : goal.loop-more-smaller
loop-more-smaller c = fewer_left c.loop-more.more c.in_ok-more.more _ _ c.loop-more-test.true c.in_ok-more.ensures.follows.fewer

pub returns-clause-reached : goal.returns-clause-reached
returns-clause-reached c =
    let set = c.loop-more.reached in
    let wide = Reaches (WideRelated (sites_at c.args.sites.now)) c.args.root.now in
    IfOk-weaker c.keys_in_order.result
    (λ pairs. pairs.items ≡ set.keys)
    (λ pairs. (p : Pair) → Contains pairs.items p ↔ wide p)
    (λ pairs keys p.
    let (found, there) = btree_set_contains_iff pairs_total pairs_exact set p in
    let (sound, complete) = c.loop-more.invariant.ended c.loop-more-test.false p in
    subst (λ (ps : List Pair). Contains ps p ↔ wide p) (sym keys) (λ h. sound (there h), λ h. found (complete h)))
    c.keys_in_order.ensures.keys
