use Rattle.std.proofs.Common.{◌↔◌, List, inl, inr, ⊎_elim, subst}
use Rattle.std.specs.List.{Contains}
use Rattle.trace_core.specs.declared.pairs.Pair.{Pair}
use Rattle.trace_core.specs.Chains.{Related, sites_at}
use Rattle.trace_core.specs.Relations.{ReachedFrom}
use Rattle.gap_core.specs.WideReach.{Follows}
use Rattle.gap_core.proofs.wide_reach.go_on.Goals as goal

pub returns : goal.returns
returns c =
    let found = c.in_ok-reach_from.field-0.items in
    let reached = λ (p : Pair). subst (λ (ps : List Pair). Contains found p ↔ ReachedFrom (Related (sites_at c.args.sites.now)) ps p) c.deref.ensures.value (c.in_ok-reach_from.ensures.reached p) in
    record {
      found = λ p. (
        λ h. ⊎_elim (λ was. inl was) (λ at. inr ((reached p).0 at)) ((c.in_ok-add_pairs.ensures p).0 h),
        λ h. (c.in_ok-add_pairs.ensures p).1 (⊎_elim (λ was. inl was) (λ at. inr ((reached p).1 at)) h),
      );
      follows = subst (λ (ps : List Pair). Follows c.add_pairs.new.set c.args.steps.now.items ps c.follow.new.steps.items c.follow.new.roots.items c.in_ok-more.more) c.new-next.ensures.items c.in_ok-more.ensures;
    }
